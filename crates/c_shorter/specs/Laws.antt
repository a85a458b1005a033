-- The struct tells the part: C reads by it the numbers that `shorter` hands back, and no two parts are returned alike.
use Rattle.std.specs.Prelude.{◌≡◌, refl}
use Rattle.std.proofs.Common.{ap, arith}
use Rattle.check_shorter.specs.declared.Part.{Part}
use Rattle.check_shorter.specs.declared.Part.TheVariants.{OfFirst, OfSecond, Empty}
use Rattle.check_shorter.specs.Shorter.{Slice, part_in}
use Rattle.c_shorter.specs.declared.CPart.{CPart}
use Rattle.c_shorter.specs.Calls.{neither_code, first_code, second_code, part_returned, part_read}

pub read_back : (p : Part) (s t : Slice) → part_read (part_returned p) s.numbers t.numbers ≡ (part_in p s t).numbers
unfolding part_read
read_back (OfFirst k) s t = refl
read_back (OfSecond k) s t = refl
read_back Empty s t = refl

pub parts_apart : (p q : Part) → part_returned p ≡ part_returned q → p ≡ q
parts_apart (OfFirst j) (OfFirst k) e = ap OfFirst (ap (λ (r : CPart). r.length) e)
parts_apart (OfFirst j) (OfSecond k) e = let w : first_code ≡ second_code = ap (λ (r : CPart). r.which) e in absurd (omega arith)
parts_apart (OfFirst j) Empty e = let w : first_code ≡ neither_code = ap (λ (r : CPart). r.which) e in absurd (omega arith)
parts_apart (OfSecond j) (OfFirst k) e = let w : second_code ≡ first_code = ap (λ (r : CPart). r.which) e in absurd (omega arith)
parts_apart (OfSecond j) (OfSecond k) e = ap OfSecond (ap (λ (r : CPart). r.length) e)
parts_apart (OfSecond j) Empty e = let w : second_code ≡ neither_code = ap (λ (r : CPart). r.which) e in absurd (omega arith)
parts_apart Empty (OfFirst k) e = let w : neither_code ≡ first_code = ap (λ (r : CPart). r.which) e in absurd (omega arith)
parts_apart Empty (OfSecond k) e = let w : neither_code ≡ second_code = ap (λ (r : CPart). r.which) e in absurd (omega arith)
parts_apart Empty Empty e = refl
