-- An entry of a table that may hold any numbers, with a step put in, or with two: each is small enough to be added to another.
use Rattle.std.specs.Prelude.{◌≡◌, refl, Bool, true, false, List, ℕ, ◌+◌, ◌*◌, ◌<◌, ℤ, pos, neg_ℤ, ◌+ℤ◌, ◌-ℤ◌, None, Option, Some}
use Rattle.std.proofs.Common.{sym, ap, ap₂, ◌∙◌, add-one, arith, SFits}
use Rattle.std.specs.Int.Signed.{le_z, lt_z}
use Rattle.std.specs.Int.{w64}
use Rattle.integers.specs.Integer.{◌⩽◌, half, Within}
use Rattle.integers.proofs.Linear.{ints, zs, given₂}
use Rattle.integers.specs.Laws.{never, both_true}
use Rattle.integers.specs.Table.{all_below, below_at}
use Rattle.lines.specs.Line.{number}
use Rattle.lines.specs.Valid.{LinesOk}
use Rattle.steps.specs.declared.Step.{Step}
use Rattle.steps.specs.Step.{max_weight, step_numbered_lem}
use Rattle.theory_walks.specs.Distance.{Distance, none, some, min_d, half_d, ◌⊕◌, ◌⊞◌}
use Rattle.theory_walks.specs.Size.{within_more, within_sum}
use Rattle.theory_walks.specs.Negative.{not_below0}
use Rattle.theory_bounds.specs.Tight.{Table}
use Rattle.theory_inserting.specs.Insert.{inserted, through}
use Rattle.theory_inserting.specs.Two.{insert_named}
use Rattle.theory_kept.specs.Slack.{equal_slack, is_wide}
use Rattle.decide_rows.specs.Stored.{stored}
use Rattle.decide_rows.specs.Read.{no_walk_lem, distance_of, Short, max_distance, of_none, of_some, short_more, store_none}
use Rattle.decide_rows.specs.Numbers.{StepOk, numbered_ok}
use Rattle.decide_stored_table.specs.Sum.{min_short}
use Rattle.session_step.specs.Read.{small_table, SizedTable, small_short}

-- two distances and a weight
abbrev pub max_way : ℕ
max_way = max_distance + max_weight + max_distance

-- two such and a weight
abbrev pub max_twice : ℕ
max_twice = max_way + max_weight + max_way

-- a step that may be there
abbrev pub NamedStepOk : ℕ → Option Step → Type 0
NamedStepOk n (Some s) = StepOk n s
NamedStepOk n None = Unit {0}

pub record EntryReady (n : ℕ) (t : List ℤ) (x : Option Step) (u v : ℕ) : Type 0 where
  pub table : SizedTable n t
  pub step : NamedStepOk n x
  pub u_lt : u < 2 * n
  pub v_lt : v < 2 * n

pub record StepsReady (n : ℕ) (t : List ℤ) (x y : Option Step) : Type 0 where
  pub table : SizedTable n t
  pub first : NamedStepOk n x
  pub second : NamedStepOk n y

-- a step of a list's line
pub numbered_named : (n : ℕ) (L : List ℤ) → LinesOk n L → (k : ℕ) (x : Option Step) → x ≡ step_numbered_lem L k → NamedStepOk n x
numbered_named n L ok k (Some s) e = numbered_ok n L ok k s (sym e)
numbered_named n L ok k None e = tt

-- ---- how large
way_short : (m : ℕ) (a b : Distance) (w : ℤ) → Short m a → Short m b → Within max_weight w → Short (m + max_weight + m) (a ⊕ w ⊞ b)
way_short m none b w ha hb hw z e = never (cc)
way_short m (some x) none w ha hb hw z e = never (cc)
way_short m (some x) (some y) w ha hb hw z e = let q : x +ℤ w +ℤ y ≡ z = (cc) in rw q at (within_sum (within_sum (ha x refl) hw) (hb y refl))

named_short : (n m : ℕ) (D : Table) → ((u v : ℕ) → Short m (D u v)) → (x : Option Step) → NamedStepOk n x → (u v : ℕ) → Short (m + max_weight + m) (insert_named D x u v)
named_short n m D h (Some s) ok u v = min_short (D u v) _ _ (short_more (omega arith) (h u v)) (way_short m (D u s.from) (D s.to v) s.weight (h u s.from) (h s.to v) ok.small)
named_short n m D h None ok u v = short_more (omega arith) (h u v)

module _ (n : ℕ) (t : List ℤ) (x : Option Step) (ok : NamedStepOk n x) where
  pub once_short : (u v : ℕ) → Short max_way (insert_named (small_table (2 * n) t) x u v)
  once_short = named_short n max_distance (small_table (2 * n) t) (λ u v. small_short (number t (v * (2 * n) + u))) x ok

  pub twice_short : (y : Option Step) → NamedStepOk n y → (u v : ℕ) → Short max_twice (insert_named (insert_named (small_table (2 * n) t) x) y u v)
  twice_short y oy = named_short n max_way (insert_named (small_table (2 * n) t) x) once_short y oy

-- ---- read back
pub far_back : (d : Distance) → Short max_twice d → distance_of (stored d) ≡ d
far_back none s = of_none no_walk_lem refl
far_back (some z) s = of_some z (not_far z (s z refl).high)
  where
    not_far : (z : ℤ) → z ⩽ pos max_twice → z ≡ no_walk_lem → ⊥
    not_far z = simp ints (omega arith)

pub way_back : (d : Distance) → Short max_way d → distance_of (stored d) ≡ d
way_back d s = far_back d (short_more (omega arith) s)

-- ---- the way along the step, by the code
far_fits : (z : ℤ) → Within max_twice z → SFits w64 z
far_fits z h = given₂ h.low h.high (simp ints (omega zs))

module _ (own before weight after : ℤ) where
  pub way_none_before : before ≡ no_walk_lem → own ≡ stored (min_d (distance_of own) (distance_of before ⊕ weight ⊞ distance_of after))
  way_none_before e = sym (store_none own) ∙ sym (ap (λ (d : Distance). stored (min_d (distance_of own) (d ⊕ weight ⊞ distance_of after))) (of_none before e))

  pub way_none_after : after ≡ no_walk_lem → own ≡ stored (min_d (distance_of own) (distance_of before ⊕ weight ⊞ distance_of after))
  way_none_after e =
      sym (store_none own)
      ∙ ap (λ (d : Distance). stored (min_d (distance_of own) d)) (sym (nothing (distance_of before ⊕ weight)))
      ∙ sym (ap (λ (d : Distance). stored (min_d (distance_of own) (distance_of before ⊕ weight ⊞ d))) (of_none after e))
    where
      nothing : (d : Distance) → d ⊞ none ≡ none
      nothing none = refl
      nothing (some d) = refl

  module _ (hb : before ≡ no_walk_lem → ⊥) (ha : after ≡ no_walk_lem → ⊥) (sb : Short max_way (distance_of before)) (sa : Short max_way (distance_of after)) (hw : Within max_weight weight) where
    first_within : Within (max_way + max_weight) (before +ℤ weight)
    first_within = within_sum (sb before (of_some before hb)) hw

    pub first_fits : SFits w64 (before +ℤ weight)
    first_fits = far_fits (before +ℤ weight) (within_more (omega arith) first_within)

    sum_within : Within max_twice (before +ℤ weight +ℤ after)
    sum_within = within_sum first_within (sa after (of_some after ha))

    pub sum_fits : SFits w64 (before +ℤ weight +ℤ after)
    sum_fits = far_fits (before +ℤ weight +ℤ after) sum_within

    pub way_is : (r : ℤ) → r ≡ stored (min_d (distance_of own) (distance_of (before +ℤ weight +ℤ after))) → r ≡ stored (min_d (distance_of own) (distance_of before ⊕ weight ⊞ distance_of after))
    way_is r e =
        e
        ∙ ap (λ (d : Distance). stored (min_d (distance_of own) d))
        (far_back (some (before +ℤ weight +ℤ after)) (λ z q. let s : before +ℤ weight +ℤ after ≡ z = (cc) in rw s at sum_within)
        ∙ sym (ap₂ (λ (a b : Distance). a ⊕ weight ⊞ b) (of_some before hb) (of_some after ha)))

-- ---- an entry with the step, from three entries of a table
module _ (D : Table) (small : (u v : ℕ) → Short max_way (D u v)) (s : Step) (u v : ℕ) (own before after : ℤ) (eo : own ≡ stored (D u v)) (eb : before ≡ stored (D u s.from)) (ea : after ≡ stored (D s.to v)) where
  before_is : distance_of before ≡ D u s.from
  before_is = ap distance_of eb ∙ way_back (D u s.from) (small u s.from)

  after_is : distance_of after ≡ D s.to v
  after_is = ap distance_of ea ∙ way_back (D s.to v) (small s.to v)

  pub way_ready : Within max_weight s.weight → Short max_way (distance_of before) × Short max_way (distance_of after) × Within max_weight s.weight
  way_ready h = (rw before_is (small u s.from), rw after_is (small s.to v), h)

  pub with_step : (r : ℤ) → r ≡ stored (min_d (distance_of own) (distance_of before ⊕ s.weight ⊞ distance_of after)) → r ≡ stored (inserted D s u v)
  with_step r e =
      e
      ∙ ap₂ (λ (a b : Distance). stored (min_d (distance_of own) (a ⊕ s.weight ⊞ b))) before_is after_is
      ∙ ap (λ (d : Distance). stored (min_d d (through D s u v))) (ap distance_of eo ∙ way_back (D u v) (small u v))

-- ---- a wide step: the stored way back against the slack without the weight
pub wide_stored : (d : Distance) (w : ℤ) → Within max_weight w → lt_z (equal_slack -ℤ w) (stored d) ≡ is_wide (d ⊕ w)
wide_stored none w h = below w h.low
  where
    below : (w : ℤ) → neg_ℤ (pos max_weight) ⩽ w → lt_z (equal_slack -ℤ w) no_walk_lem ≡ true
    below w = simp ints (omega arith)
wide_stored (some z) w h = go (lt_z (equal_slack -ℤ w) z) refl
  where
    turn_yes : (w z : ℤ) → lt_z (equal_slack -ℤ w) z ≡ true → lt_z equal_slack (z +ℤ w) ≡ true
    turn_yes w z = simp ints (omega arith)

    turn_no : (w z : ℤ) → lt_z (equal_slack -ℤ w) z ≡ false → lt_z equal_slack (z +ℤ w) ≡ false
    turn_no w z = simp ints (omega arith)

    go : (b : Bool) → lt_z (equal_slack -ℤ w) z ≡ b → b ≡ lt_z equal_slack (z +ℤ w)
    go true e = sym (turn_yes w z e)
    go false e = sym (turn_no w z e)

pub slack_fits : (w : ℤ) → Within max_weight w → SFits w64 (equal_slack -ℤ w)
slack_fits w h = given₂ h.low h.high (simp ints (omega zs))

-- ---- the halves of two distances, by the code
module _ (there back : ℤ) where
  pub meet_none_there : there ≡ no_walk_lem → true ≡ not_below0 (half_d (distance_of there) ⊞ half_d (distance_of back))
  meet_none_there e = sym (ap (λ (d : Distance). not_below0 (half_d d ⊞ half_d (distance_of back))) (of_none there e))

  pub meet_none_back : back ≡ no_walk_lem → true ≡ not_below0 (half_d (distance_of there) ⊞ half_d (distance_of back))
  meet_none_back e = sym (ap (λ (d : Distance). not_below0 (half_d (distance_of there) ⊞ half_d d)) (of_none back e) ∙ nothing (half_d (distance_of there)))
    where
      nothing : (d : Distance) → not_below0 (d ⊞ none) ≡ true
      nothing none = refl
      nothing (some d) = refl

  pub meet_is : (there ≡ no_walk_lem → ⊥) → (back ≡ no_walk_lem → ⊥) → le_z (pos 0) (half there +ℤ half back) ≡ not_below0 (half_d (distance_of there) ⊞ half_d (distance_of back))
  meet_is ht hb = sym (ap₂ (λ (a b : Distance). not_below0 (half_d a ⊞ half_d b)) (of_some there ht) (of_some back hb))

  pub halves_fit : SFits w64 there → SFits w64 back → SFits w64 (half there +ℤ half back)
  halves_fit f g = fit there back f g
    where
      fit : (a b : ℤ) → SFits w64 a → SFits w64 b → SFits w64 (half a +ℤ half b)
      fit a b = simp ints (omega zs)

-- ---- the loop: the points before p pass
pub passes_more : (f : ℕ → Bool) (p : ℕ) → all_below p f ≡ true → f p ≡ true → all_below (p + 1) f ≡ true
passes_more f p e q = ap (λ (k : ℕ). all_below k f) (add-one p) ∙ both_true (f p) (all_below p f) q e

pub one_fails : (f : ℕ → Bool) (N p : ℕ) → p < N → f p ≡ false → false ≡ all_below N f
one_fails f N p h e = go (all_below N f) refl
  where
    go : (b : Bool) → all_below N f ≡ b → false ≡ b
    go true q = let c : true ≡ false = sym (below_at N f q p h) ∙ e in never (cc)
    go false q = refl
