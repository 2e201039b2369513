-- On hosted partitions of which none stands twice.
use Rattle.std.proofs.Common.{◌≡◌, ℕ, Bool, true, false, true≢false, cond, nat_eq, ◌||◌, ◌&&◌, List, [], ◌∷◌, ◌++◌, Option, Some, None, map, refl, sym, ap, ◌∙◌}
use Rattle.std.specs.List.{list_any, filter_map, cons_option, AllByRecursion}
use Rattle.std.specs.Option.{option_map}
use Rattle.std.specs.Ordering.{int_eq}
use Rattle.std.specs.Str.{bytes_eq}
use Rattle.std.specs.Bool.{Decides}
use Rattle.std.proofs.lemmas.Bool.Decides.{Decides-eqb, Decides-int_eq}
use Rattle.std.proofs.lemmas.Slice.Eq.{bytes_eq-Decides}
use Rattle.std.proofs.lemmas.List.{append_assoc, append-nil}
use Rattle.share_model.specs.declared.ack.AckBatch.{AckBatch}
use Rattle.topic_conf.specs.declared.topic.Topic.{Topic}
use Rattle.topic_conf.specs.Topics.{shard_at}
use Rattle.topic_conf.proofs.Shards.{shard_of_one}
use Rattle.msgs_share.specs.declared.share_topic.SharePartition.{SharePartition}
use Rattle.msgs_share.specs.declared.share_topic.ShareTopic.{ShareTopic}
use Rattle.indexmap.specs.IndexMap.{insert_entry, insert_all}
use Rattle.share_session.specs.Requests.{ack_batch, entries, is_same, has_repeat, wanted_of, wanted_in}

abbrev Entry : Type 0
Entry = List ℕ × SharePartition

abbrev Wanted : Type 0
Wanted = List (ℕ × List AckBatch)

-- the list has no entry of this shard
abbrev Lacks : Wanted → ℕ → Type 0
Lacks done shard = list_any (nat_eq shard) (map (λ (w : ℕ × List AckBatch). w.0) done) ≡ false

insert_new : (done : Wanted) (shard : ℕ) (acks : List AckBatch) → Lacks done shard → insert_entry nat_eq done shard acks ≡ done ++ (shard, acks) ∷ []
insert_new [] shard acks h = refl
insert_new (e ∷ es) shard acks h = by (nat_eq shard e.0) h (insert_new es shard acks)
  where
    by : (b : Bool) → (b || list_any (nat_eq shard) (map (λ (w : ℕ × List AckBatch). w.0) es)) ≡ false →
        (Lacks es shard → insert_entry nat_eq es shard acks ≡ es ++ (shard, acks) ∷ []) →
        cond b ((e.0, acks) ∷ es) (e ∷ insert_entry nat_eq es shard acks) ≡ e ∷ es ++ (shard, acks) ∷ []
    by true h rest = absurd (true≢false h)
    by false h rest = ap (λ l. e ∷ l) (rest h)

lacks_more : (done : Wanted) (shard other : ℕ) (acks : List AckBatch) → Lacks done other → nat_eq other shard ≡ false → Lacks (done ++ (shard, acks) ∷ []) other
lacks_more [] shard other acks h apart = ap (λ b. b || false) apart
lacks_more (e ∷ es) shard other acks h apart = by (nat_eq other e.0) h (λ rest. lacks_more es shard other acks rest apart)
  where
    by : (b : Bool) → (b || list_any (nat_eq other) (map (λ (w : ℕ × List AckBatch). w.0) es)) ≡ false → (Lacks es other → Lacks (es ++ (shard, acks) ∷ []) other) →
        (b || list_any (nat_eq other) (map (λ (w : ℕ × List AckBatch). w.0) (es ++ (shard, acks) ∷ []))) ≡ false
    by true h rest = h
    by false h rest = rest h

yes : (b : Bool) (P : Type 0) → Decides b P → P → b ≡ true
yes b P h p = h.1 p

no : (b : Bool) (P : Type 0) → Decides b P → (P → ⊥) → b ≡ false
no true P h p = absurd (p (h.0 refl))
no false P h p = refl

first_false : (b c : Bool) → (b || c) ≡ false → b ≡ false
first_false true c h = h
first_false false c h = refl

second_false : (b c : Bool) → (b || c) ≡ false → c ≡ false
second_false true c h = absurd (true≢false h)
second_false false c h = h

module _ (topics : List Topic) where
  abbrev place : Entry → Option ℕ
  place e = shard_at e.0 e.1.partition_index topics

  -- two partitions have two shards
  apart : (e other : Entry) (shard next : ℕ) → is_same e other ≡ false → place e ≡ Some shard → place other ≡ Some next → nat_eq next shard ≡ false
  apart e other shard next h p q = no (nat_eq next shard) (next ≡ shard) (Decides-eqb next shard) (λ same.
      let one = shard_of_one topics e.0 other.0 e.1.partition_index other.1.partition_index shard p (q ∙ ap Some same) in
      true≢false (sym (ap (λ b. b && int_eq e.1.partition_index other.1.partition_index) (yes (bytes_eq e.0 other.0) (e.0 ≡ other.0) (bytes_eq-Decides e.0 other.0) one.0)
      ∙ yes (int_eq e.1.partition_index other.1.partition_index) (e.1.partition_index ≡ other.1.partition_index) (Decides-int_eq e.1.partition_index other.1.partition_index) one.1) ∙ h))

  -- the list has no entry of the partition's shard
  abbrev IsApart : Wanted → Entry → Type 0
  IsApart done e = (shard : ℕ) → place e ≡ Some shard → Lacks done shard

  keeps : (e : Entry) (shard : ℕ) (acks : List AckBatch) → place e ≡ Some shard → (done : Wanted) (es : List Entry) →
      list_any (is_same e) es ≡ false → AllByRecursion (IsApart done) es → AllByRecursion (IsApart (done ++ (shard, acks) ∷ [])) es
  keeps e shard acks p done [] h a = tt
  keeps e shard acks p done (x ∷ es) h a = (
    (λ next q. lacks_more done shard next acks (a.0 next q) (apart e x shard next (first_false (is_same e x) (list_any (is_same e) es) h) p q)),
    keeps e shard acks p done es (second_false (is_same e x) (list_any (is_same e) es) h) a.1,
  )

  none : (es : List Entry) → AllByRecursion (IsApart []) es
  none [] = tt
  none (e ∷ es) = ((λ shard p. refl), none es)

  -- where no partition stands twice, each goes behind those before it
  each_new : (es : List Entry) (done : Wanted) → has_repeat es ≡ false → AllByRecursion (IsApart done) es →
      insert_all nat_eq done (filter_map (wanted_of topics) es) ≡ done ++ filter_map (wanted_of topics) es
  each_new [] done h a = sym (append-nil done)
  each_new (e ∷ es) done h a = by (place e) refl (λ d. each_new es d (second_false (list_any (is_same e) es) (has_repeat es) h))
    where
      acks : List AckBatch
      acks = map ack_batch e.1.acknowledgement_batches

      rest : Wanted
      rest = filter_map (wanted_of topics) es

      by : (o : Option ℕ) → place e ≡ o → ((d : Wanted) → AllByRecursion (IsApart d) es → insert_all nat_eq d rest ≡ d ++ rest) →
          insert_all nat_eq done (cons_option (option_map (λ shard. (shard, acks)) o) rest) ≡ done ++ cons_option (option_map (λ shard. (shard, acks)) o) rest
      by None p again = again done a.1
      by (Some shard) p again =
          ap (λ d. insert_all nat_eq d rest) (insert_new done shard acks (a.0 shard p))
          ∙ again (done ++ (shard, acks) ∷ []) (keeps e shard acks p done es (first_false (list_any (is_same e) es) (has_repeat es) h) a.1)
          ∙ append_assoc done ((shard, acks) ∷ []) rest

  pub each_once : (asked : List (ShareTopic SharePartition)) → has_repeat (entries asked) ≡ false → insert_all nat_eq [] (wanted_in topics asked) ≡ wanted_in topics asked
  each_once asked h = each_new (entries asked) [] h (none (entries asked))
