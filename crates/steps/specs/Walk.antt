-- Walks: steps that follow each other end to start (the field's term: paths), their sums, and what a walk says of its two ends.
use Rattle.std.specs.Prelude.{◌≡◌, refl, List, [], ◌∷◌, ◌++◌, ℕ, suc, ℤ, pos, ◌+ℤ◌, ◌-ℤ◌, length, Some}
use Rattle.std.proofs.Common.{ap, ◌∙◌, arith}
use Rattle.integers.specs.Integer.{◌⩽◌}
use Rattle.integers.proofs.Linear.{ints}
use Rattle.lines.specs.Line.{Assignment}
use Rattle.steps.specs.declared.Step.{Step}
use Rattle.steps.specs.Point.{value}
use Rattle.steps.specs.Step.{step_numbered_lem, Says}

-- from u by these steps to v
abbrev pub Path : ℕ → List Step → ℕ → Type 0
Path u [] v = u ≡ v
Path u (t ∷ ts) v = (u ≡ t.from) × Path t.to ts v

abbrev pub total : List Step → ℤ
total [] = pos 0
total (t ∷ ts) = t.weight +ℤ total ts

-- the steps that these numbers name in a list
abbrev pub Names : List ℤ → List ℕ → List Step → Type 0
Names L [] [] = Unit {0}
Names L [] (t ∷ ts) = ⊥
Names L (k ∷ ks) [] = ⊥
Names L (k ∷ ks) (t ∷ ts) = (step_numbered_lem L k ≡ Some t) × Names L ks ts

pub names_append : (L : List ℤ) (ks ls : List ℕ) (ss ts : List Step) → Names L ks ss → Names L ls ts → Names L (ks ++ ls) (ss ++ ts)
names_append L [] ls [] ts a b = b
names_append L [] ls (s ∷ ss) ts a b = absurd a
names_append L (k ∷ ks) ls [] ts a b = absurd a
names_append L (k ∷ ks) ls (s ∷ ss) ts a b = (a.0, names_append L ks ls ss ts a.1 b)

pub names_length : (L : List ℤ) (ks : List ℕ) (ts : List Step) → Names L ks ts → length ts ≡ length ks
names_length L [] [] n = refl
names_length L [] (t ∷ ts) n = absurd n
names_length L (k ∷ ks) [] n = absurd n
names_length L (k ∷ ks) (t ∷ ts) n = ap suc (names_length L ks ts n.1)

-- each of the steps holds
abbrev pub AllSay : Assignment → List Step → Type 0
AllSay s [] = Unit {0}
AllSay s (t ∷ ts) = Says s t × AllSay s ts

-- the sum of a walk bounds the difference of its ends
pub walk_says : (s : Assignment) (u : ℕ) (ts : List Step) (v : ℕ) → AllSay s ts → Path u ts v → value s u -ℤ value s v ⩽ total ts
walk_says s u [] v a p = rw p (none (value s v))
  where
    none : (x : ℤ) → x -ℤ x ⩽ pos 0
    none x = simp ints (omega arith)
walk_says s u (t ∷ ts) v a p = rw p.0 (chain (value s t.from) (value s t.to) (value s v) t.weight (total ts) a.0 (walk_says s t.to ts v a.1 p.1))
  where
    chain : (x y z w r : ℤ) → x -ℤ y ⩽ w → y -ℤ z ⩽ r → x -ℤ z ⩽ w +ℤ r
    chain x y z w r = simp ints (omega arith)

pub total_append : (ss ts : List Step) → total (ss ++ ts) ≡ total ss +ℤ total ts
total_append [] ts = none (total ts)
  where
    none : (x : ℤ) → x ≡ pos 0 +ℤ x
    none x = simp ints (omega arith)
total_append (s ∷ ss) ts = ap (λ (z : ℤ). s.weight +ℤ z) (total_append ss ts) ∙ regroup s.weight (total ss) (total ts)
  where
    regroup : (x y z : ℤ) → x +ℤ (y +ℤ z) ≡ (x +ℤ y) +ℤ z
    regroup x y z = simp ints (omega arith)

pub path_append : (u m v : ℕ) (ss ts : List Step) → Path u ss m → Path m ts v → Path u (ss ++ ts) v
path_append u m v [] ts p q = rw p q
path_append u m v (s ∷ ss) ts p q = (p.0, path_append s.to m v ss ts p.1 q)
