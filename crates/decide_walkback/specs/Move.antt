-- One row back: a value of a relaxed row stood in the row before already, or a step makes it.
use Rattle.std.specs.Prelude.{◌≡◌, refl, ◌⊎◌, List, [], ◌∷◌, ℕ, ◌+◌, ◌*◌, ◌<◌, ◌≤◌, ℤ, pos, ◌+ℤ◌, length, set, take, drop, Option, Some, MatchOption}
use Rattle.std.proofs.Common.{sym, ap, ◌∙◌, inl, inr, arith, get_or-take, get_or-drop}
use Rattle.std.proofs.lemmas.List.{length-map}
use Rattle.integers.specs.Integer.{◌⩽◌, Within}
use Rattle.integers.proofs.Linear.{ints}
use Rattle.lines.specs.Limits.{max_variables}
use Rattle.lines.specs.Line.{lines_of}
use Rattle.lines.specs.Valid.{LinesOk}
use Rattle.steps.specs.declared.Step.{Step}
use Rattle.steps.specs.Step.{step_numbered_lem, steps_of}
use Rattle.steps.specs.Walk.{Names}
use Rattle.theory_walks.specs.Distance.{Distance, none, some, ⊕_some}
use Rattle.theory_walks.specs.Row.{at, relax_row, Along, at_lt, relax_one}
use Rattle.lines.specs.Limits.{absent_greatest}
use Rattle.theory_walks.specs.Graph.{numbered}
use Rattle.decide_rows.specs.Stored.{stored, stored_row, stored_at}
use Rattle.decide_walkback.specs.Makes.{entry, max_entry, Near, Maker, SearchOk, IsMaker, makes}
use Rattle.steps.specs.Laws.{number_below}

-- the N numbers of the work area from a place on
abbrev pub row_in : ℕ → List ℤ → ℕ → List ℤ
row_in N w from = take N (drop from w)

-- every entry that is a number is small
abbrev pub SmallRow : List Distance → Type 0
SmallRow row = (p : ℕ) (z : ℤ) → at row p ≡ some z → Within max_entry z

-- ---- what the function asks and promises
-- a row stands at `before` and behind it the row relaxed, whose entry at p is a number; the slot lies behind both
pub record MoveOk (n : ℕ) (L w : List ℤ) (before p slot : ℕ) : Type 0 where
  pub few : n ≤ max_variables
  pub lines : LinesOk n L
  pub row : List Distance
  pub size : length row ≡ 2 * n
  pub small : SmallRow row
  pub old : row_in (2 * n) w before ≡ stored_row row
  pub new : row_in (2 * n) w (before + 2 * n) ≡ stored_row (relax_row (steps_of (lines_of L)) row)
  pub within : p < 2 * n
  pub value : ℤ
  pub reached : at (relax_row (steps_of (lines_of L)) row) p ≡ some value
  pub behind : before + 2 * (2 * n) ≤ slot
  pub room : slot < length w

-- the value stood in the row before: nothing is written
pub record Stays (N : ℕ) (w : List ℤ) (before p : ℕ) (w' : List ℤ) : Type 0 where
  pub area : w' ≡ w
  pub same : entry w (before + p) ≡ entry w (before + N + p)

-- a step makes it: its number goes to the slot
pub record Goes (N : ℕ) (L w : List ℤ) (before p slot : ℕ) (w' : List ℤ) (number : ℕ) : Type 0 where
  pub area : w' ≡ set w slot (pos number)
  pub maker : IsMaker L (row_in N w before) p (entry w (before + N + p)) number

abbrev pub Moved : ℕ → List ℤ → List ℤ → ℕ → ℕ → ℕ → List ℤ → Option ℕ → Type 0
Moved N L w before p slot w' r = MatchOption r (Stays N w before p w') (λ number. Goes N L w before p slot w' number)

-- ---- stored rows
pub entry_in : (N : ℕ) (w : List ℤ) (from p : ℕ) → p < N → entry (row_in N w from) p ≡ entry w (from + p)
entry_in N w from p h = get_or-take N (drop from w) p (pos 0) h ∙ get_or-drop from w p (pos 0)

-- a small number is not the one that stands for no walk
pub not_absent : (z : ℤ) → Within max_entry z → z ≡ absent_greatest → ⊥
not_absent z w e = go z w.high e
  where
    go : (z : ℤ) → z ⩽ pos max_entry → z ≡ absent_greatest → ⊥
    go z = simp ints (omega arith)

pub stored_some : (d : Distance) → (stored d ≡ absent_greatest → ⊥) → d ≡ some (stored d)
stored_some none n = absurd (n refl)
stored_some (some z) n = refl

stored_near : (row : List Distance) → SmallRow row → (p : ℕ) → p < length row → Near (entry (stored_row row) p)
stored_near row small p h n = small p (entry (stored_row row) p) (stored_some (at row p) (λ e. n (stored_at row p h ∙ e)) ∙ ap some (sym (stored_at row p h)))

-- ---- the step that makes a value
one_number : (L : List ℤ) (t : Step) (ks : List ℕ) → Names L ks (t ∷ []) → (k : ℕ) × (step_numbered_lem L k ≡ Some t)
one_number L t [] a = absurd a
one_number L t (k ∷ ks) a = (k, a.0)

module _ (L : List ℤ) (row : List Distance) (small : SmallRow row) (p : ℕ) (z : ℤ) where
  abbrev E : List Step
  E = steps_of (lines_of L)

  maker_along : Along E row p (some z) → Maker L (stored_row row) p z
  maker_along a =
      let t = a.step in
      let x = ⊕_some (at row t.from) t.weight z (sym a.value) in
      let m = numbered L (t ∷ []) (a.member, tt) in
      let k = one_number L t m.numbers m.names in
      let e : entry (stored_row row) t.from ≡ x.0 = stored_at row t.from (at_lt row t.from x.0 x.1) ∙ ap stored x.1 in
      record {
        number = k.0;
        is = record {
          below = number_below L k.0 t k.1;
          makes = makes L (stored_row row) p z k.0
              (record {
                step = t;
                named = k.1;
                is = record {
                  ends = sym a.ends;
                  known = λ q. not_absent x.0 (small t.from x.0 x.1) (sym e ∙ q);
                  sum = ap (λ (y : ℤ). y +ℤ t.weight) e ∙ x.2;
                };
              });
        };
      }

  pub some_maker : at (relax_row E row) p ≡ some z → (stored (at row p) ≡ z → ⊥) → Maker L (stored_row row) p z
  some_maker e n = go (relax_one E row p)
    where
      go : (at (relax_row E row) p ≡ at row p) ⊎ Along E row p (at (relax_row E row) p) → Maker L (stored_row row) p z
      go (inl f) = absurd (n (ap stored (sym f ∙ e)))
      go (inr a) = maker_along (rw e at a)

-- ---- in the work area
module _ (n : ℕ) (L w : List ℤ) (before p slot : ℕ) (m : MoveOk n L w before p slot) where
  abbrev there : ℤ
  there = entry w (before + p)

  abbrev here : ℤ
  here = entry w (before + 2 * n + p)

  there_is : there ≡ stored (at m.row p)
  there_is = sym (entry_in (2 * n) w before p m.within) ∙ ap (λ (r : List ℤ). entry r p) m.old ∙ stored_at m.row p (omega (arith, m.size, m.within))

  here_is : here ≡ m.value
  here_is =
      sym (entry_in (2 * n) w (before + 2 * n) p m.within)
      ∙ ap (λ (r : List ℤ). entry r p) m.new
      ∙ stored_at (relax_row (steps_of (lines_of L)) m.row) p (at_lt (relax_row (steps_of (lines_of L)) m.row) p m.value m.reached)
      ∙ ap stored m.reached

  -- where the value did not stand in the row before, there is a step to be found
  pub search_ok : (there ≡ here → ⊥) → SearchOk L (row_in (2 * n) w before) p here
  search_ok d =
      rw (m.old, here_is)
      (record {
        row = record {
          variables = n;
          few = m.few;
          lines = m.lines;
          size = length-map m.row stored ∙ m.size;
          near = λ q h. stored_near m.row m.small q (rw (length-map m.row stored) at h);
        };
        some = some_maker L m.row m.small p m.value m.reached (λ e. d (there_is ∙ e ∙ sym here_is));
      })
