-- A step of the front with its reduced weight: twice its own, and the number of its start less that of its end.
use Rattle.std.specs.Prelude.{◌≡◌, List, ℕ, ◌+◌, ◌<◌, ℤ, pos, ◌+ℤ◌, ◌-ℤ◌, None, Option, Some}
use Rattle.std.proofs.Common.{sym, subst, arith, SFits}
use Rattle.std.specs.Int.{w64}
use Rattle.integers.specs.Integer.{◌⩽◌, ◌⋖◌, Within}
use Rattle.integers.proofs.Linear.{ints, zs}
use Rattle.lines.specs.Line.{number}
use Rattle.steps.specs.declared.Step.{Step}
use Rattle.steps.specs.Step.{max_weight}
use Rattle.theory_walks.specs.Row.{In}
use Rattle.engine_packed_steps.specs.Steps.{step_in_lem, steps_in, ReadReady, read_ready, step_in}
use Rattle.engine_reduced_table.specs.Reduced.{far, max_potential, Reduced, LowerReady, asked, entry_step}

abbrev pub reduced_weight : ℕ → List ℤ → Step → ℤ
reduced_weight pot w t = ((t.weight +ℤ t.weight) +ℤ number w (pot + t.from)) -ℤ number w (pot + t.to)

-- s is step i with its reduced weight, by which the row of its start may be lowered
pub record OnReduced (count pot size : ℕ) (w : List ℤ) (i : ℕ) (s : Step) : Type 0 where
  pub is : s ≡ record { from = (step_in_lem w i).from; to = (step_in_lem w i).to; weight = reduced_weight pot w (step_in_lem w i) }
  pub ready : LowerReady count pot size s.from s.to s.weight w

-- nothing is said of a step whose reduced weight is no entry
unfoldable pub ReducedIf : ℕ → ℕ → ℕ → List ℤ → ℕ → Option Step → Type 0
ReducedIf count pot size w i (Some s) = OnReduced count pot size w i s
ReducedIf count pot size w i None = Unit {0}

pub reduced_none : (count pot size : ℕ) (w : List ℤ) (i : ℕ) → ReducedIf count pot size w i None
unfolding ReducedIf
reduced_none count pot size w i = tt

pub reduced_entry : {count pot size i : ℕ} {w : List ℤ} {s : Step} → OnReduced count pot size w i s → ReducedIf count pot size w i (Some s)
unfolding ReducedIf
reduced_entry o = o

pub reduced_found : {count pot size i : ℕ} {w : List ℤ} {r : Option Step} {s : Step} → ReducedIf count pot size w i r → r ≡ Some s → OnReduced count pot size w i s
unfolding ReducedIf
reduced_found {count} {pot} {size} {i} {w} f e = subst (ReducedIf count pot size w i) e f

module _ {count pot size : ℕ} {w : List ℤ} (r : Reduced count pot size w) (i : ℕ) (h : i < count) where
  pub step_read : ReadReady i w
  step_read = read_ready r.steps i h

  -- the step as it was read
  module _ (t : Step) (e : t ≡ step_in_lem w i) where
    pub from_lt : t.from < size
    from_lt = rw e (r.steps.ok i h).from_lt

    pub to_lt : t.to < size
    to_lt = rw e (r.steps.ok i h).to_lt

    pub light : Within max_weight t.weight
    light = rw e (r.steps.ok i h).light

    pub start_small : Within max_potential (number w (pot + t.from))
    start_small = r.small t.from from_lt

    pub end_small : Within max_potential (number w (pot + t.to))
    end_small = r.small t.to to_lt

    pub on_reduced : pos 0 ⩽ reduced_weight pot w t → reduced_weight pot w t ⋖ pos far → OnReduced count pot size w i (record { from = t.from; to = t.to; weight = reduced_weight pot w t })
    on_reduced low high = record {
      is = rw e;
      ready = record {
        ask = asked r t.from t.to from_lt to_lt;
        by = entry_step t (subst (λ (x : Step). In x (steps_in count w)) (sym e) (step_in count w i h)) (back t.weight (number w (pot + t.from)) (number w (pot + t.to))) low high;
      };
    }
      where
        back : (v a b : ℤ) → (((v +ℤ v) +ℤ a) -ℤ b) +ℤ b ≡ (v +ℤ v) +ℤ a
        back v a b = simp ints (omega arith)

-- ---- all of it fits
pub twice_fits : (v : ℤ) → Within max_weight v → SFits w64 (v +ℤ v)
twice_fits v h = simp ints (omega zs)

pub plus_fits : (v a : ℤ) → Within max_weight v → Within max_potential a → SFits w64 ((v +ℤ v) +ℤ a)
plus_fits v a h k = simp ints (omega zs)

pub whole_fits : (v a b : ℤ) → Within max_weight v → Within max_potential a → Within max_potential b → SFits w64 (((v +ℤ v) +ℤ a) -ℤ b)
whole_fits v a b h k l = simp ints (omega zs)

pub reduced_fits : {count pot size i : ℕ} {w : List ℤ} {s : Step} → OnReduced count pot size w i s → SFits w64 s.weight
reduced_fits {s} o = fits s.weight o.ready.by.low o.ready.by.high
  where
    fits : (z : ℤ) → pos 0 ⩽ z → z ⩽ pos far → SFits w64 z
    fits z = simp ints (omega zs)
