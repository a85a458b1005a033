-- What the exported function returns: a struct for each part, and the numbers that C reads by it.
use Rattle.std.specs.Prelude.{cond, List, [], ℕ, eqb, ℤ, take}
use Rattle.check_shorter.specs.declared.Part.{Part}
use Rattle.check_shorter.specs.declared.Part.TheVariants.{OfFirst, OfSecond, Empty}
use Rattle.check_shorter.specs.Shorter.{shorter_part_lem}
use Rattle.c_shorter.specs.declared.CPart.{CPart}

-- which of the two refutations is the one
abbrev pub neither_code : ℕ
neither_code = 0

abbrev pub first_code : ℕ
first_code = 1

abbrev pub second_code : ℕ
second_code = 2

abbrev pub part_returned : Part → CPart
part_returned (OfFirst k) = record { which = first_code; length = k }
part_returned (OfSecond k) = record { which = second_code; length = k }
part_returned Empty = record { which = neither_code; length = 0 }

abbrev pub shorter_returned : ℕ → List ℤ → List ℕ → List ℕ → CPart
shorter_returned n L S T = part_returned (shorter_part_lem n L S T)

-- the part that C has then: from the front of the slice that `which` names as many numbers as `length` says
unfoldable pub part_read : CPart → List ℕ → List ℕ → List ℕ
part_read r S T = cond (eqb r.which first_code) (take r.length S) (cond (eqb r.which second_code) (take r.length T) [])
