-- The words of a server are read in one way.
use Rattle.std.proofs.Common.{◌≡◌, ◌≢◌, ◌<◌, ◌≤◌, ℕ, List, [], ◌∷◌, ◌++◌, Bor, String, Global, Option, Some, None, IfSome, IfNone, MatchOption, codes, length, flat_map, refl, sym, ap, subst, ◌∙◌, arith}
use Rattle.std.specs.List.{AllByRecursion, AllZip}
use Rattle.topic_conf.specs.declared.topic.Topic.{Topic}
use Rattle.topic_conf.specs.Topics.{IsTopicList}
use Rattle.topic_conf.specs.Configs.{ConfigParts}
use Rattle.share_top.specs.declared.words.address.Address.{Address}
use Rattle.share_top.specs.declared.words.server.ServeWords.{ServeWords}
use Rattle.share_top.specs.declared.words.setting.Setting.{Setting}
use Rattle.share_top.specs.declared.words.setting.Settings.{Settings}
use Rattle.share_top.specs.declared.words.setting.Setting.TheVariants as set
use Rattle.share_top.specs.Words.{AreServeWords, IsOfServer, IsSetting, IsTold, IsTopicWord, accept_of, advertise_of, limit_of, listen_of, lock_ms_of, option_word, reset_of, setting_words, texts, workers_of, versions_of, idle_ms_of}
use Rattle.share_top.specs.WordReading.{Adds, AreNoServeWords, AreNoTopics, AreTopics, BeginsNoOption, HasAddresses, HasNoFolder, HasNoServeOptions, IsBehindFolder, IsOption, Reads, ReadsServe, nothing, serve_words_of}
use Rattle.share_top.proofs.GivenSettings.{InRange, adds_both, adds_one, adds_parts, all_both, all_parts, are_of_server, can_be_added, few_workers, in_range, once_each}
use Rattle.share_top.proofs.GivenSettings.{same_accept_of, same_advertise_of, same_limit_of, same_listen_of, same_lock_ms_of, same_reset_of, same_workers_of, same_versions_of, same_idle_ms_of, were_of_server}
use Rattle.share_top.proofs.OneCommand.{first_word, new_to_nothing, no_option, same_conf}
use Rattle.share_top.proofs.OptionWords.{apart, one_front}
use Rattle.share_top.proofs.TopicWords.{hosted_stand, same_topics}

-- the folder's option is none of the settings'
pub folder_is_none : IsOption (codes "--dir") → ⊥
folder_is_none (set.Reset reset, e) = omega (arith, apart _ _ e)
folder_is_none (set.LockMs time, e) = omega (arith, apart _ _ e)
folder_is_none (set.Limit limit, e) = omega (arith, apart _ _ e)
folder_is_none (set.Summary summary, e) = omega (arith, apart _ _ e)
folder_is_none (set.Listen address, e) = omega (arith, apart _ _ e)
folder_is_none (set.Advertise address, e) = omega (arith, apart _ _ e)
folder_is_none (set.Workers n, e) = omega (arith, apart _ _ e)
folder_is_none (set.Accept n, e) = omega (arith, apart _ _ e)
folder_is_none (set.Versions versions, e) = omega (arith, apart _ _ e)
folder_is_none (set.IdleMs time, e) = omega (arith, apart _ _ e)

abbrev behind_dir : List ℕ → List Setting → List (List ℕ) → List (List ℕ)
behind_dir folder behind rest = codes "--dir" ∷ (folder ∷ (flat_map setting_words behind ++ rest))

-- settings, the folder, settings and a rest are read in one way
pub record AreSame (before others : List Setting) (folder other : List ℕ) (behind more : List Setting) (rest left : List (List ℕ)) : Type 0 where
  pub before_is : before ≡ others
  pub folder_is : folder ≡ other
  pub behind_is : behind ≡ more
  pub rest_is : rest ≡ left

one_way : (before others : List Setting) (folder other : List ℕ) (behind more : List Setting) (rest left : List (List ℕ))
    → AllByRecursion IsSetting before → AllByRecursion IsSetting others → AllByRecursion IsSetting behind → AllByRecursion IsSetting more
    → BeginsNoOption rest → BeginsNoOption left
    → flat_map setting_words before ++ behind_dir folder behind rest ≡ flat_map setting_words others ++ behind_dir other more left
    → AreSame before others folder other behind more rest left
one_way before others folder other behind more rest left p q r s n m e =
    let front = one_front before others (behind_dir folder behind rest) (behind_dir other more left) p q folder_is_none folder_is_none e in
    let tail = first_word _ _ _ _ (first_word _ _ _ _ front.1).1 in
    let last = one_front behind more rest left r s n m tail.1 in
    record { before_is = front.0; folder_is = tail.0; behind_is = last.0; rest_is = last.1 }

-- ---- the options

module _ (words : List (List ℕ)) where
  -- the settings before the folder
  pub front_of : (rest : List (List ℕ)) (given : Settings) (r : ReadsServe words rest given) → Reads nothing words r.before (behind_dir r.folder r.behind rest) r.mid
  front_of rest given r = record { words_are = r.words_are; in_range = r.in_range.0; no_option = folder_is_none; adds = r.adds.0 }

  pub no_front : ((settings : List Setting) (rest : List (List ℕ)) (after : Settings) → Reads nothing words settings rest after → ⊥) → HasNoServeOptions words
  no_front none rest given r = none r.before (behind_dir r.folder r.behind rest) r.mid (front_of rest given r)

  module _ (settings : List Setting) (rest : List (List ℕ)) (mid : Settings) (first : Reads nothing words settings rest mid) where
    -- what was read is what stands before the folder
    same_front : (left : List (List ℕ)) (given : Settings) (r : ReadsServe words left given) → (settings ≡ r.before) × (rest ≡ behind_dir r.folder r.behind left)
    same_front left given r = one_front settings r.before rest (behind_dir r.folder r.behind left) first.in_range r.in_range.0 first.no_option folder_is_none
        (sym first.words_are ∙ r.words_are)

    pub no_folder : HasNoFolder rest → HasNoServeOptions words
    no_folder none left given r = none r.folder (flat_map setting_words r.behind ++ left) ((same_front left given r).1, r.some)

    module _ (folder : List ℕ) (behind : List (List ℕ)) (is : IsBehindFolder rest folder behind) where
      read_on : (left : List (List ℕ)) (given : Settings) (more : List Setting) → Reads mid behind more left given → ReadsServe words left given
      read_on left given more r = record {
        before = settings;
        folder = folder;
        behind = more;
        mid = mid;
        words_are = first.words_are ∙ ap (λ (x : List (List ℕ)). flat_map setting_words settings ++ x)
            (is.0 ∙ ap (λ (x : List (List ℕ)). codes "--dir" ∷ (folder ∷ x)) r.words_are);
        some = is.1;
        in_range = (first.in_range, r.in_range);
        no_option = r.no_option;
        adds = (first.adds, r.adds);
      }

      read_back : (left : List (List ℕ)) (given : Settings) (r : ReadsServe words left given) → Reads mid behind r.behind left given
      read_back left given r =
          let s = same_front left given r in
          let tail = (first_word _ _ _ _ (first_word _ _ _ _ (sym is.0 ∙ s.1)).1).1 in
          let same : mid ≡ r.mid = adds_one nothing r.before mid r.mid (subst (λ (x : List Setting). Adds nothing x mid) s.0 first.adds) r.adds.0 in
          record {
            words_are = tail;
            in_range = r.in_range.1;
            no_option = r.no_option;
            adds = subst (λ (g : Settings). Adds g r.behind given) (sym same) r.adds.1;
          }

      pub options_read : (result : Option (Settings × Bor (List (String Global))))
          → IfSome result (λ x. (more : List Setting) × Reads mid behind more (texts x.1.now) x.0)
          → IfNone result ((more : List Setting) (left : List (List ℕ)) (after : Settings) → Reads mid behind more left after → ⊥)
          → MatchOption result (HasNoServeOptions words) (λ x. ReadsServe words (texts x.1.now) x.0)
      options_read None some none = λ left given r. none r.behind left given (read_back left given r)
      options_read (Some x) some none = read_on (texts x.1.now) x.0 some.0 some.1

-- ---- all words

behind_serve : (words others : List (List ℕ)) → codes "serve" ∷ words ≡ codes "serve" ∷ others → words ≡ others
behind_serve words others e = cc

module _ (words : List (List ℕ)) (listen : Address) (serve : ServeWords) (are : AreServeWords (codes "serve" ∷ words) listen serve) where
  abbrev all : List Setting
  all = are.before ++ are.behind

  -- what the settings give
  gathered : (given : Settings) × Adds nothing all given
  gathered = can_be_added nothing all (new_to_nothing all) are.once

  pub is_read : (given : Settings) × ReadsServe words are.topics given
  is_read =
      let g = gathered in
      let parts = adds_parts nothing are.before are.behind g.0 g.1 in
      let range = all_parts IsSetting are.before are.behind are.in_range in (
        g.0,
        record {
          before = are.before;
          folder = are.folder;
          behind = are.behind;
          mid = parts.0;
          words_are = behind_serve _ _ are.words_are;
          some = are.some;
          in_range = range;
          no_option = no_option are.topics serve.conf.topics are.each_topic;
          adds = (parts.1, parts.2);
        },
      )

  module _ (rest : List (List ℕ)) (given : Settings) (r : ReadsServe words rest given) where
    same_parts : AreSame r.before are.before r.folder are.folder r.behind are.behind rest are.topics
    same_parts =
        let range = all_parts IsSetting are.before are.behind are.in_range in
        one_way r.before are.before r.folder are.folder r.behind are.behind rest are.topics r.in_range.0 range.0 r.in_range.1 range.1 r.no_option
        (no_option are.topics serve.conf.topics are.each_topic) (sym r.words_are ∙ behind_serve _ _ are.words_are)

    given_all : Adds nothing all given
    given_all =
        let s = same_parts in
        subst (λ (x : List Setting × List Setting). Adds nothing (x.0 ++ x.1) given) (λ i. (s.before_is i, s.behind_is i))
        (adds_both nothing r.before r.behind r.mid given r.adds.0 r.adds.1)

    -- the addresses are those that were given
    pub has_addresses : HasAddresses given listen (record { host = serve.conf.host; port = serve.conf.port })
    has_addresses = record {
      of_server = are_of_server nothing all given given_all refl are.of_server;
      listens = sym (same_listen_of nothing all given given_all) ∙ are.listens;
      tells = subst (λ (o : Option Address). IsTold o listen (record { host = serve.conf.host; port = serve.conf.port }))
          (same_advertise_of nothing all given given_all) are.told;
    }

    pub zipped : AllZip IsTopicWord rest serve.conf.topics
    zipped = subst (λ (ws : List (List ℕ)). AllZip IsTopicWord ws serve.conf.topics) (sym same_parts.rest_is) are.each_topic

pub no_options : (words : List (List ℕ)) → HasNoServeOptions words → AreNoServeWords (codes "serve" ∷ words)
no_options words none listen serve are = let r = is_read words listen serve are in none are.topics r.0 r.1

module _ (words rest : List (List ℕ)) (given : Settings) (r : ReadsServe words rest given) where
  pub no_addresses : ((listen told : Address) → HasAddresses given listen told → ⊥) → AreNoServeWords (codes "serve" ∷ words)
  no_addresses none listen serve are = none listen (record { host = serve.conf.host; port = serve.conf.port }) (has_addresses words listen serve are rest given r)

  pub no_topics : AreNoTopics rest → AreNoServeWords (codes "serve" ∷ words)
  no_topics none listen serve are = none serve.conf.topics (are.hosted, zipped words listen serve are rest given r)

  all_given : Adds nothing (r.before ++ r.behind) given
  all_given = adds_both nothing r.before r.behind r.mid given r.adds.0 r.adds.1

  all_in_range : AllByRecursion IsSetting (r.before ++ r.behind)
  all_in_range = all_both IsSetting r.before r.behind r.in_range.0 r.in_range.1

  pub numbers_in_range : InRange given
  numbers_in_range = in_range nothing (r.before ++ r.behind) given all_in_range all_given (tt, tt)

  pub are_serve : (listen told : Address) (topics : List Topic) → HasAddresses given listen told → AreTopics rest topics
      → AreServeWords (codes "serve" ∷ words) listen (serve_words_of given topics told)
  are_serve listen told topics has are = record {
    before = r.before;
    folder = r.folder;
    behind = r.behind;
    topics = rest;
    words_are = ap (λ (ws : List (List ℕ)). codes "serve" ∷ ws) r.words_are;
    some = r.some;
    of_server = (were_of_server nothing (r.before ++ r.behind) given all_given has.of_server).1;
    in_range = all_in_range;
    once = once_each nothing (r.before ++ r.behind) given all_given;
    each_topic = are.1;
    hosted = are.0;
    listens = same_listen_of nothing (r.before ++ r.behind) given all_given ∙ has.listens;
    told = subst (λ (o : Option Address). IsTold o listen told) (sym (same_advertise_of nothing (r.before ++ r.behind) given all_given)) has.tells;
    reset = sym (same_reset_of nothing (r.before ++ r.behind) given all_given);
    lock_ms = sym (same_lock_ms_of nothing (r.before ++ r.behind) given all_given);
    limit = sym (same_limit_of nothing (r.before ++ r.behind) given all_given);
    workers = sym (same_workers_of nothing (r.before ++ r.behind) given all_given);
    accept = sym (same_accept_of nothing (r.before ++ r.behind) given all_given);
    versions = sym (same_versions_of nothing (r.before ++ r.behind) given all_given);
    idle_ms = sym (same_idle_ms_of nothing (r.before ++ r.behind) given all_given);
  }

-- ---- one server

some_address : (a b : Address) → Some a ≡ Some b → a ≡ b
some_address a b e = cc

same_told : (o : Option Address) (listen a b : Address) → IsTold o listen a → IsTold o listen b → a ≡ b
same_told (Some address) listen a b p q = p ∙ sym q
same_told None listen a b p q = p.1 ∙ sym q.1

abbrev words_of : ConfigParts → ℕ → ℕ → ℕ → ServeWords
words_of conf workers accept idle_ms = record { conf = conf; workers = workers; accept = accept; idle_ms = idle_ms }

pub one_serve : (words : List (List ℕ)) (a b : Address) (s z : ServeWords) → AreServeWords words a s → AreServeWords words b z → (a ≡ b) × (s ≡ z)
one_serve words a b s z p q =
    let range = all_parts IsSetting p.before p.behind p.in_range in
    let other = all_parts IsSetting q.before q.behind q.in_range in
    let same = one_way p.before q.before p.folder q.folder p.behind q.behind p.topics q.topics range.0 other.0 range.1 other.1
    (no_option p.topics s.conf.topics p.each_topic) (no_option q.topics z.conf.topics q.each_topic)
    (behind_serve _ _ (sym p.words_are ∙ q.words_are)) in
    let all : p.before ++ p.behind ≡ q.before ++ q.behind =
    ap (λ (x : List Setting × List Setting). x.0 ++ x.1) (λ i. (same.before_is i, same.behind_is i)) in
    let zip = subst (λ (ws : List (List ℕ)). AllZip IsTopicWord ws s.conf.topics) same.rest_is p.each_topic in
    let listens : a ≡ b = some_address a b (sym p.listens ∙ ap listen_of all ∙ q.listens) in
    let here = subst (λ (x : Option Address × Address). IsTold x.0 x.1 (record { host = s.conf.host; port = s.conf.port }))
    (λ i. (ap advertise_of all i, listens i)) p.told in
    let told = same_told (advertise_of (q.before ++ q.behind)) b _ _ here q.told in
    let conf : s.conf ≡ z.conf = same_conf s.conf z.conf
    (same_topics q.topics s.conf.topics z.conf.topics (hosted_stand s.conf.topics p.hosted) (hosted_stand z.conf.topics q.hosted) zip q.each_topic)
    (p.reset ∙ ap reset_of all ∙ sym q.reset) (p.lock_ms ∙ ap lock_ms_of all ∙ sym q.lock_ms) (p.limit ∙ ap limit_of all ∙ sym q.limit)
    (ap (λ (x : Address). x.host) told) (ap (λ (x : Address). x.port) told) (p.versions ∙ ap versions_of all ∙ sym q.versions) in
    let workers : s.workers ≡ z.workers = p.workers ∙ ap workers_of all ∙ sym q.workers in
    let accept : s.accept ≡ z.accept = p.accept ∙ ap accept_of all ∙ sym q.accept in
    let idle_ms : s.idle_ms ≡ z.idle_ms = p.idle_ms ∙ ap idle_ms_of all ∙ sym q.idle_ms in (
      listens,
      ap (λ (c : ConfigParts). words_of c s.workers s.accept s.idle_ms) conf ∙ ap (λ (n : ℕ). words_of z.conf n s.accept s.idle_ms) workers
          ∙ ap (λ (n : ℕ). words_of z.conf z.workers n s.idle_ms) accept ∙ ap (λ (n : ℕ). words_of z.conf z.workers z.accept n) idle_ms,
    )

-- how many workers a server has
pub workers_are : (words : List (List ℕ)) (listen : Address) (serve : ServeWords) → AreServeWords words listen serve → (1 ≤ serve.workers) × (serve.workers ≤ 256)
workers_are words listen serve are = subst (λ (n : ℕ). (1 ≤ n) × (n ≤ 256)) (sym are.workers) (few_workers (are.before ++ are.behind) are.in_range)
