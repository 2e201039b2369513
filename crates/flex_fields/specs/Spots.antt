-- What the code goes along, as the definitions of reading see it (this project's own).
use Rattle.flex_fields.specs.Reading.{At}
use Rattle.flex_fields.specs.declared.spot.Spot.{Spot}

-- a spot as a place and the bytes from there on
abbrev pub at_of : Spot → At
at_of s = record { place = s.place; left = s.rest.now }
