-- A row copied to another place.
use Rattle.std.specs.Prelude.{◌⊎◌, List, ℕ, ◌+◌, ◌≤◌, ℤ, length, drop}
use Rattle.std.proofs.Math.Seq.{paste}

-- the first i of the numbers at `from` copied to `to`
abbrev pub copied : List ℤ → ℕ → ℕ → ℕ → List ℤ
copied w from to i = paste w to (drop from w) i

-- the two places are apart, and inside
pub record CopyReady (from to size : ℕ) (w : List ℤ) : Type 0 where
  pub apart : (from + size ≤ to) ⊎ (to + size ≤ from)
  pub from_room : from + size ≤ length w
  pub to_room : to + size ≤ length w
