-- The words of one command are not those of another.
use Rattle.std.proofs.Common.{◌≡◌, ℕ, List, ◌∷◌, codes, length, refl, sym, ap, ◌∙◌, arith}
use Rattle.share_top.specs.declared.words.Words.TheVariants.{Replay, Load, DumpState, Gen, Serve, Consume}
use Rattle.share_top.specs.declared.words.Words.{Words}
use Rattle.share_top.specs.Words.{AreWords, WordsAreOneCommand}
use Rattle.share_top.proofs.OneCommand.{first_word, one_dump, one_gen, one_load, one_replay}
use Rattle.share_top.proofs.ServerWords.{one_serve}
use Rattle.share_top.proofs.ConsumerWords.{one_consume}

abbrev pub name_of : Words → List ℕ
name_of (Replay conf summary) = codes "replay"
name_of (Load conf shard) = codes "load"
name_of (DumpState conf) = codes "dump-state"
name_of (Gen n) = codes "gen"
name_of (Serve listen serve) = codes "serve"
name_of (Consume connect conf) = codes "consume"

pub begin_with : (words : List (List ℕ)) (command : Words) → AreWords words command → (rest : List (List ℕ)) × (words ≡ name_of command ∷ rest)
begin_with words (Replay conf summary) p = (_, p.words_are)
begin_with words (Load conf shard) p = (_, p.words_are)
begin_with words (DumpState conf) p = (_, p.words_are)
begin_with words (Gen n) p = (_, p.words_are)
begin_with words (Serve listen serve) p = (_, p.words_are)
begin_with words (Consume connect conf) p = (_, p.words_are)

-- their first words are as long
pub same_size : (words : List (List ℕ)) (a b : Words) → AreWords words a → AreWords words b → length (name_of a) ≡ length (name_of b)
same_size words a b p q =
    let x = begin_with words a p in
    let y = begin_with words b q in
    ap length (first_word (name_of a) (name_of b) x.0 y.0 (sym x.1 ∙ y.1)).0

pub one_command : WordsAreOneCommand
one_command words (Replay a s) (Replay b z) p q = let e = one_replay words a b s z p q in λ i. Replay (e.0 i) (e.1 i)
one_command words (Load a s) (Load b z) p q = let e = one_load words a b s z p q in λ i. Load (e.0 i) (e.1 i)
one_command words (DumpState a) (DumpState b) p q = ap DumpState (one_dump words a b p q)
one_command words (Gen m) (Gen n) p q = ap Gen (one_gen words m n p q)
one_command words (Serve a s) (Serve b z) p q = let e = one_serve words a b s z p q in λ i. Serve (e.0 i) (e.1 i)
one_command words (Consume a s) (Consume b z) p q = let e = one_consume words a b s z p q in λ i. Consume (e.0 i) (e.1 i)
one_command words (Replay a s) (Load b z) p q = let e = same_size words (Replay a s) (Load b z) p q in absurd (omega (arith, e))
one_command words (Replay a s) (DumpState b) p q = let e = same_size words (Replay a s) (DumpState b) p q in absurd (omega (arith, e))
one_command words (Replay a s) (Gen n) p q = let e = same_size words (Replay a s) (Gen n) p q in absurd (omega (arith, e))
one_command words (Replay a s) (Serve b z) p q = let e = same_size words (Replay a s) (Serve b z) p q in absurd (omega (arith, e))
one_command words (Load a s) (Replay b z) p q = let e = same_size words (Load a s) (Replay b z) p q in absurd (omega (arith, e))
one_command words (Load a s) (DumpState b) p q = let e = same_size words (Load a s) (DumpState b) p q in absurd (omega (arith, e))
one_command words (Load a s) (Gen n) p q = let e = same_size words (Load a s) (Gen n) p q in absurd (omega (arith, e))
one_command words (Load a s) (Serve b z) p q = let e = same_size words (Load a s) (Serve b z) p q in absurd (omega (arith, e))
one_command words (DumpState a) (Replay b z) p q = let e = same_size words (DumpState a) (Replay b z) p q in absurd (omega (arith, e))
one_command words (DumpState a) (Load b z) p q = let e = same_size words (DumpState a) (Load b z) p q in absurd (omega (arith, e))
one_command words (DumpState a) (Gen n) p q = let e = same_size words (DumpState a) (Gen n) p q in absurd (omega (arith, e))
one_command words (DumpState a) (Serve b z) p q = let e = same_size words (DumpState a) (Serve b z) p q in absurd (omega (arith, e))
one_command words (Gen m) (Replay b z) p q = let e = same_size words (Gen m) (Replay b z) p q in absurd (omega (arith, e))
one_command words (Gen m) (Load b z) p q = let e = same_size words (Gen m) (Load b z) p q in absurd (omega (arith, e))
one_command words (Gen m) (DumpState b) p q = let e = same_size words (Gen m) (DumpState b) p q in absurd (omega (arith, e))
one_command words (Gen m) (Serve b z) p q = let e = same_size words (Gen m) (Serve b z) p q in absurd (omega (arith, e))
one_command words (Serve a s) (Replay b z) p q = let e = same_size words (Serve a s) (Replay b z) p q in absurd (omega (arith, e))
one_command words (Serve a s) (Load b z) p q = let e = same_size words (Serve a s) (Load b z) p q in absurd (omega (arith, e))
one_command words (Serve a s) (DumpState b) p q = let e = same_size words (Serve a s) (DumpState b) p q in absurd (omega (arith, e))
one_command words (Serve a s) (Gen n) p q = let e = same_size words (Serve a s) (Gen n) p q in absurd (omega (arith, e))
one_command words (Replay a s) (Consume b z) p q = let e = same_size words (Replay a s) (Consume b z) p q in absurd (omega (arith, e))
one_command words (Load a s) (Consume b z) p q = let e = same_size words (Load a s) (Consume b z) p q in absurd (omega (arith, e))
one_command words (DumpState a) (Consume b z) p q = let e = same_size words (DumpState a) (Consume b z) p q in absurd (omega (arith, e))
one_command words (Gen m) (Consume b z) p q = let e = same_size words (Gen m) (Consume b z) p q in absurd (omega (arith, e))
one_command words (Serve a s) (Consume b z) p q = let e = same_size words (Serve a s) (Consume b z) p q in absurd (omega (arith, e))
one_command words (Consume a s) (Replay b z) p q = let e = same_size words (Consume a s) (Replay b z) p q in absurd (omega (arith, e))
one_command words (Consume a s) (Load b z) p q = let e = same_size words (Consume a s) (Load b z) p q in absurd (omega (arith, e))
one_command words (Consume a s) (DumpState b) p q = let e = same_size words (Consume a s) (DumpState b) p q in absurd (omega (arith, e))
one_command words (Consume a s) (Gen n) p q = let e = same_size words (Consume a s) (Gen n) p q in absurd (omega (arith, e))
one_command words (Consume a s) (Serve b z) p q = let e = same_size words (Consume a s) (Serve b z) p q in absurd (omega (arith, e))
