-- Numbers of a record, as the fields of messages have them.
use Rattle.std.proofs.Common.{◌≡◌, ℕ, List, ◌++◌, ap, ◌∙◌}
use Rattle.std.specs.Prelude.{Some, Result, Ok, Err}
use Rattle.flex_fields.specs.declared.fault.WireFault.{WireFault}
use Rattle.flex_fields.specs.Reading.{At, varint_at, varlong_at}
use Rattle.flex_fields.specs.Grammar.{IsVarint, IsVarlong}
use Rattle.flex_fields.specs.Laws.{IsReader}
use Rattle.flex_fields.specs.Sound.Readers.{varint_reads, varlong_reads}
use Rattle.rec_batch.specs.Passing.{found_in, varint_in, varlong_in}
use Rattle.rec_batch.proofs.Parts.{Passes, some_is}

seen_some : {A : Type 0} (r : Result (A × At) WireFault) (x : A) (rest : List ℕ) → found_in r ≡ Some (x, rest) → (after : At) × (r ≡ Ok (x, after)) × (after.left ≡ rest)
seen_some (Ok y) x rest e = let p = some_is (y.0, y.1.left) (x, rest) e in (y.1, ap Ok (ap (λ z. (z.0, y.1)) p), ap (λ z. z.1) p)
seen_some (Err f) x rest e = cc

from_reader : {A : Type 0} (P : List ℕ → A → Type 0) (read : At → Result (A × At) WireFault) → IsReader P read → Passes P (λ bytes. found_in (read (record { place = 0; left = bytes })))
from_reader P read law = record {
  takes = λ bytes x rest fits e.
      let s = seen_some (read (record { place = 0; left = bytes })) x rest e in
      let t = law.takes (record { place = 0; left = bytes }) x s.0 fits s.1 in
      record { front = t.front; parts = t.parts ∙ ap (λ l. t.front ++ l) s.2; stands = t.spelled };
  gives = λ front tail x s. ap found_in (law.gives front tail 0 x s);
}

pub varint_passes : Passes IsVarint varint_in
unfolding varint_in
varint_passes = from_reader IsVarint varint_at varint_reads

pub varlong_passes : Passes IsVarlong varlong_in
unfolding varlong_in
varlong_passes = from_reader IsVarlong varlong_at varlong_reads
