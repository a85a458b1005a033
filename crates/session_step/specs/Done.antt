-- What inserting a step does to a table of numbers, whatever they are, and what its contract asks.
use Rattle.std.specs.Prelude.{◌≡◌, refl, Bool, true, false, cond, ◌||◌, List, ℕ, ◌+◌, ◌*◌, ℤ, pos, length}
use Rattle.std.proofs.Common.{sym, ap, ap₂, ◌∙◌, arith}
use Rattle.std.specs.Int.Signed.{le_z}
use Rattle.integers.specs.Integer.{◌⩽◌, Within}
use Rattle.integers.proofs.Linear.{ints}
use Rattle.lines.specs.Line.{number}
use Rattle.steps.specs.declared.Step.{Step}
use Rattle.steps.specs.Step.{max_weight}
use Rattle.theory_walks.specs.Distance.{Distance, none, some, min_d, ◌⊕◌, ◌⊞◌, ⊕_some}
use Rattle.theory_walks.specs.Size.{within_more, within_sum}
use Rattle.theory_walks.specs.Negative.{not_below0}
use Rattle.theory_bounds.specs.Tight.{Table}
use Rattle.decide_rows.specs.Stored.{stored}
use Rattle.decide_rows.specs.Read.{no_walk_lem, distance_of, Short, max_distance, of_some, short_more, stored_sign}
use Rattle.decide_rows.specs.Numbers.{StepOk}
use Rattle.decide_stored_table.specs.Sum.{max_tight, read_back}
use Rattle.decide_stored_table.specs.Table.{table_of, ShortTable}
use Rattle.theory_bounds.specs.Agree.{Agree}
use Rattle.theory_inserting.specs.Insert.{closing, inserted, through}
use Rattle.theory_inserting.specs.Where.{is_at_most, start_as_near, end_as_near, inserted_where, start_same, end_same}
use Rattle.session_step.specs.Read.{small_of, small_table, small_short, small_agree}
use Rattle.session_step.specs.Written.{written, written_length, written_same}

-- ---- definitions
-- from u to the step's start and along the step
abbrev pub along : Table → Step → ℕ → Distance
along D s u = D u s.from ⊕ s.weight

-- whether a distance is at most a weight
abbrev pub at_most : Distance → ℤ → Bool
at_most none w = false
at_most (some d) w = le_z d w

-- the table with the step: entries are added as they are read, and compared as they stand
abbrev pub inserted_in : ℕ → List ℤ → Step → Table
inserted_in N t s u v =
    cond (start_as_near (small_table N t) s v || end_as_near (small_table N t) s u) (table_of N t u v) (min_d (table_of N t u v) (through (small_table N t) s u v))

unfoldable pub step_after : ℕ → Step → List ℤ → List ℤ
step_after N s t = written (inserted_in N t s) N N

pub after_size : (N : ℕ) (s : Step) (t : List ℤ) → length (step_after N s t) ≡ N * N
unfolding step_after
after_size N s t = written_length (inserted_in N t s) N N

-- ---- a distance and the step's weight
-- the greatest sum
abbrev pub max_along : ℕ
max_along = max_distance + max_weight

weight_some : (w : ℤ) → Within max_weight w → distance_of w ≡ some w
weight_some w h = of_some w (far w h.high)
  where
    far : (w : ℤ) → w ⩽ pos max_weight → w ≡ no_walk_lem → ⊥
    far w = simp ints (omega arith)

pub weight_short : (w : ℤ) → Within max_weight w → Short max_tight (distance_of w)
weight_short w h z e = rw is at (within_more {n = max_tight} (omega arith) h)
  where
    both : some w ≡ some z
    both = sym (weight_some w h) ∙ e

    is : w ≡ z
    is = cc both

-- the code's call: the entry that was read, and the weight, added
pub along_of_sum : (d : Distance) (x w m : ℤ) → distance_of x ≡ d → Within max_weight w → m ≡ stored (distance_of x ⊞ distance_of w) → m ≡ stored (d ⊕ w)
along_of_sum d x w m f h e = e ∙ ap (λ (y : Distance). stored (distance_of x ⊞ y)) (weight_some w h) ∙ ap (λ (y : Distance). stored (y ⊞ some w)) f ∙ ap stored (same d)
  where
    same : (d : Distance) → d ⊞ some w ≡ d ⊕ w
    same none = refl
    same (some d) = refl

-- no walk is stored as a number above every weight
pub at_most_stored : (d : Distance) (w : ℤ) → Within max_weight w → le_z (stored d) w ≡ at_most d w
at_most_stored none w h = above w h.high
  where
    above : (w : ℤ) → w ⩽ pos max_weight → le_z no_walk_lem w ≡ false
    above w = simp ints (omega arith)
at_most_stored (some d) w h = refl

pub way_short : (z w : ℤ) → Within max_weight w → Short max_along (small_of z ⊕ w)
way_short z w h d e = let x = ⊕_some (small_of z) w d e in rw x.2 at (within_sum (small_short z x.0 x.1) h)

-- ---- the tests of the code, on stored numbers: the number for no walk is the highest
pub at_most_both : (a b : Distance) → Short max_tight a → Short max_tight b → le_z (stored a) (stored b) ≡ is_at_most a b
at_most_both none none ha hb = refl
at_most_both (some a) none ha hb = below a (ha a refl).high
  where
    below : (a : ℤ) → a ⩽ pos max_tight → le_z a no_walk_lem ≡ true
    below a = simp ints (omega arith)
at_most_both none (some b) ha hb = above b (hb b refl).high
  where
    above : (b : ℤ) → b ⩽ pos max_tight → le_z no_walk_lem b ≡ false
    above b = simp ints (omega arith)
at_most_both (some a) (some b) ha hb = refl

-- whether an entry is at most the sum of another and the step's weight
pub as_near_is : (x y w own way : ℤ) → Within max_weight w → own ≡ stored (small_of x) → way ≡ stored (small_of y ⊕ w)
    → le_z own way ≡ is_at_most (small_of x) (small_of y ⊕ w)
as_near_is x y w own way h e f =
    ap₂ le_z e f ∙ at_most_both (small_of x) (small_of y ⊕ w) (short_more (omega arith) (small_short x)) (short_more (omega arith) (way_short y w h))

module _ (n : ℕ) (s : Step) (t : List ℤ) (ready : StepOk n s) where
  abbrev N : ℕ
  N = 2 * n

  abbrev D : Table
  D = small_table N t

  pub along_small : (u : ℕ) → Short max_along (along D s u)
  along_small u = way_short (number t (s.from * N + u)) s.weight ready.small

  pub along_back : (u : ℕ) → distance_of (stored (along D s u)) ≡ along D s u
  along_back u = read_back (along D s u) (short_more (omega arith) (along_small u))

  -- the sign of the stored sum
  pub stays_is : (z : ℤ) → z ≡ stored (along D s s.to) → le_z (pos 0) z ≡ not_below0 (closing D s)
  stays_is z e = stored_sign z ∙ ap not_below0 (ap distance_of e ∙ along_back s.to)

-- ---- a table of distances: it is that of the table as it stands, with no reading between
module _ (n : ℕ) (s : Step) (t : List ℤ) (short : ShortTable n t) (ready : StepOk n s) where
  abbrev P : Table
  P = table_of (2 * n) t

  plain : Agree (2 * n) (inserted_in (2 * n) t s) (inserted_where P s)
  plain u v hu hv =
      ap₂ (λ (a b : Distance). cond (start_as_near D s v || end_as_near D s u) (P u v) (min_d (P u v) (a ⊕ s.weight ⊞ b))) (same u s.from hu ready.from_lt)
      (same s.to v ready.to_lt hv)
      ∙ ap₂ (λ (a b : Bool). cond (a || b) (P u v) (inserted P s u v)) (start_same (2 * n) D P same s ready.from_lt ready.to_lt v hv)
      (end_same (2 * n) D P same s ready.from_lt ready.to_lt u hu)
    where
      D : Table
      D = small_table (2 * n) t

      same : Agree (2 * n) D P
      same = small_agree n t short

  pub after_plain : step_after (2 * n) s t ≡ written (inserted_where (table_of (2 * n) t) s) (2 * n) (2 * n)
  unfolding step_after
  after_plain = written_same (2 * n) (inserted_in (2 * n) t s) (inserted_where P s) plain (2 * n) (omega arith)
