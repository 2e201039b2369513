use Rattle.flex_fields.specs.declared.fault.WireFault.TheVariants.{BadLength}
use Rattle.flex_fields.specs.Reading.{array_len_at}
use Rattle.flex_fields.specs.Sound.Counted.{len_takes, len_gives}
use Rattle.flex_fields.proofs.laws.array_lengths_are_read_where_they_stand.Goals as goal

pub returns : goal.returns
unfolding array_len_at
returns c = record {
  takes = λ at n after fits e. len_takes (BadLength at.place) at n after fits e;
  gives = λ front tail place n s within. len_gives (BadLength place) front tail place n s within;
}
