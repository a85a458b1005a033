-- What it means that a tree fits, rule by rule: the kinds alternate, the depth is at most 8, the lines are in the list.
use Rattle.std.specs.Prelude.{◌≡◌, ℕ, zero, suc, ◌<◌, ◌≤◌, max}
use Rattle.std.proofs.Common.{arith}
use Rattle.tree_reading.specs.declared.Kind.{Kind}
use Rattle.tree_reading.specs.Tree.{Row, none, line, node, other, max_depth, Fits, levels}

-- all-of nodes hold any-of nodes, and the other way round
abbrev pub Alternates : Kind → Row → Type 0
Alternates k none = Unit {0}
Alternates k (line i r) = Alternates k r
Alternates k (node l c r) = (l ≡ other k) × Alternates l c × Alternates k r

-- the levels of these children, lines too, and the depth of the tree that has them
abbrev pub height : Row → ℕ
height none = 0
height (line i r) = max 1 (height r)
height (node l c r) = max (suc (height c)) (height r)

abbrev pub depth_of : Row → ℕ
depth_of t = suc (height t)

abbrev pub Listed : ℕ → Row → Type 0
Listed m none = Unit {0}
Listed m (line i r) = (i < m) × Listed m r
Listed m (node l c r) = Listed m c × Listed m r

pub record Shape (m : ℕ) (k : Kind) (d : ℕ) (t : Row) : Type 0 where
  pub alternates : Alternates k t
  pub low : height t ≤ d
  pub listed : Listed m t

pub shape : (m : ℕ) (k : Kind) (d : ℕ) (t : Row) → Fits m k d t → Shape m k d t
shape m k d none f = record { alternates = tt; low = omega arith; listed = tt }
shape m k zero (line i r) f = absurd f
shape m k zero (node l c r) f = absurd f
shape m k (suc d) (line i r) f =
    let s = shape m k (suc d) r f.1 in
    record { alternates = s.alternates; low = omega (arith, s.low); listed = (f.0, s.listed) }
shape m k (suc d) (node l c r) f =
    let s = shape m l d c f.1 in
    let u = shape m k (suc d) r f.2 in
    record { alternates = (f.0, s.alternates, u.alternates); low = omega (arith, s.low, u.low); listed = (s.listed, u.listed) }

pub fits : (m : ℕ) (k : Kind) (d : ℕ) (t : Row) → Shape m k d t → Fits m k d t
fits m k d none s = tt
fits m k zero (line i r) s = absurd (omega (arith, s.low))
fits m k zero (node l c r) s = absurd (omega (arith, s.low))
fits m k (suc d) (line i r) s = (s.listed.0, fits m k (suc d) r (record { alternates = s.alternates; low = omega (arith, s.low); listed = s.listed.1 }))
fits m k (suc d) (node l c r) s = (
  s.alternates.0,
  fits m l d c (record { alternates = s.alternates.1; low = omega (arith, s.low); listed = s.listed.0 }),
  fits m k (suc d) r (record { alternates = s.alternates.2; low = omega (arith, s.low); listed = s.listed.1 }),
)

-- the root is one level
pub depth_levels : (t : Row) → height t ≤ levels → depth_of t ≤ max_depth
depth_levels t h = omega arith
