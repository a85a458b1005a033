-- What the search for a refutation asks and finds: a closed walk of negative sum, or a potential; and its loop.
use Rattle.std.specs.Prelude.{◌≡◌, Bool, true, false, not, List, ◌++◌, ℕ, suc, ◌+◌, ◌*◌, ◌≤◌, ◌<◌, ℤ, ◌+ℤ◌, length, replicate, drop}
use Rattle.std.proofs.Math.Path.{refl}
use Rattle.std.proofs.Common.{sym, ap, subst, ◌∙◌, add-one, arith, length-append, length-drop, drop_at}
use Rattle.std.proofs.Math.IntN.{pos}
use Rattle.std.proofs.lemmas.List.{length-replicate}
use Rattle.integers.specs.Integer.{Within}
use Rattle.integers.specs.Laws.{never}
use Rattle.lines.specs.Line.{number}
use Rattle.steps.specs.declared.Step.{Step}
use Rattle.theory_walks.specs.Distance.{some}
use Rattle.theory_walks.specs.Row.{at}
use Rattle.theory_walks.specs.Negative.{no_negative}
use Rattle.theory_covering.specs.Potential.{Potential}
use Rattle.theory_differences.specs.Anywhere.{zero_at, zero_some, fixed_potential, fixed_clear}
use Rattle.check_refutation.specs.Progress.{head_size}
use Rattle.decide_rows.specs.Stored.{stored}
use Rattle.decide_rows.specs.Read.{max_distance}
use Rattle.engine_packed_steps.specs.Scratch.{Scratch, scratch_none, scratch_trans, scratch_wider}
use Rattle.differences_lines.specs.PlainList.{PlainList, plain_of, ends_within}
use Rattle.differences_rows.specs.Layout.{walk_at_lem, plain_end, row_before}
use Rattle.differences_rows.specs.Round.{NextReady, NextDone}
use Rattle.differences_rows.specs.Standing.{Standing, standing_kept, standing_start, standing_more, next_ready, next_scratch, zero_short, not_changed, is_changed}
use Rattle.differences_walk.specs.Refuted.{RefuteReady, ShownPlain, BackRefuted}
use Rattle.differences_search.specs.Double.{DoubleReady, Doubled}

pub record SearchReady (n : ℕ) (L : List ℤ) (R : List ℕ) (w : List ℤ) : Type 0 where
  pub plain : PlainList n L
  pub room : head_size + n ≤ length R
  pub work_room : plain_end n ≤ length w

-- a number of each variable stands behind the rows: twice its potential
pub record Points (n : ℕ) (L w : List ℤ) : Type 0 where
  pub potential : ℕ → ℤ
  pub is_potential : Potential (plain_of L) potential
  pub twice : (p : ℕ) → p < n → number w (walk_at_lem n + p) ≡ potential p +ℤ potential p
  pub small : (p : ℕ) → p < n → Within max_distance (potential p)

pub record PlainSearched (n : ℕ) (L : List ℤ) (R : List ℕ) (w : List ℤ) (R' : List ℕ) (w' : List ℤ) (refuted : Bool) : Type 0 where
  pub clear : no_negative (plain_of L) n ≡ not refuted
  pub on_no : refuted ≡ true → ShownPlain n L R R'
  pub on_yes : refuted ≡ false → (R' ≡ R) × Points n L w'
  pub scratch : Scratch 0 (plain_end n) w w'

module _ {n : ℕ} {L : List ℤ} {R : List ℕ} {w₀ : List ℤ} (a : SearchReady n L R w₀) where
  abbrev E : List Step
  E = plain_of L

  -- no variable, no step
  pub searched_empty : n ≡ 0 → PlainSearched n L R w₀ R w₀ false
  unfolding no_negative
  searched_empty e = record {
    clear = rw e;
    on_no = λ z. never (cc);
    on_yes = λ _. (
      refl,
      record {
        potential = λ _. pos 0;
        is_potential = λ s i. absurd (omega (arith, (ends_within a.plain s i).0, e));
        twice = λ p h. absurd (omega arith);
        small = λ p h. absurd (omega arith);
      },
    );
    scratch = scratch_none 0 (plain_end n) w₀;
  }

-- it is not due yet
pub not_due : (n : ℕ) (L : List ℤ) (k : ℕ) (R : List ℕ) (w : List ℤ) → k < n → BackRefuted n L k R w R w false
not_due n L k R w h = record { scratch = scratch_none (walk_at_lem n) (plain_end n) w; on_yes = λ z. never (cc); on_no = λ _. (refl, h) }

-- ---- the loop, after k rounds
pub record Going (n : ℕ) (L w₀ w : List ℤ) (k from : ℕ) : Type 0 where
  pub few : k < n
  pub place : from ≡ k * n
  pub rows : Standing (plain_of L) n w k
  pub scratch : Scratch 0 (plain_end n) w₀ w

-- the first row is cleared
module _ {n : ℕ} {L : List ℤ} {R : List ℕ} {w₀ : List ℤ} (a : SearchReady n L R w₀) (w : List ℤ) (e : w ≡ replicate n (pos 0) ++ drop n w₀) where
  cleared : Scratch 0 (plain_end n) w₀ w
  cleared =
      scratch_wider {a = 0} {b = n} (omega arith) (omega arith)
      (record {
        same_length = ap length e ∙ length-append (replicate n (pos 0)) (drop n w₀) ∙ omega (arith, length-replicate n (pos 0), length-drop n w₀, a.work_room);
        front = refl;
        behind = ap (drop n) e ∙ drop_at (replicate n (pos 0)) (drop n w₀) n (length-replicate n (pos 0));
      })

  pub cleared_ready : SearchReady n L R w
  cleared_ready = record { plain = a.plain; room = a.room; work_room = omega (arith, a.work_room, cleared.same_length) }

  pub going_start : 0 < n → Going n L w w 0 0
  going_start h = record { few = h; place = omega arith; rows = standing_start (plain_of L) n w w₀ e; scratch = scratch_none 0 (plain_end n) w }

  pub searched_since : {R' : List ℕ} {w' : List ℤ} {r : Bool} → PlainSearched n L R w R' w' r → PlainSearched n L R w₀ R' w' r
  searched_since s = record { clear = s.clear; on_no = s.on_no; on_yes = s.on_yes; scratch = scratch_trans cleared s.scratch }

module _ {n : ℕ} {L : List ℤ} {R : List ℕ} {w₀ : List ℤ} (a : SearchReady n L R w₀) (w : List ℤ) where
  module _ (k from : ℕ) (g : Going n L w₀ w k from) where
    room : walk_at_lem n ≤ length w
    room = omega (arith, a.work_room, g.scratch.same_length)

    pub row_ready : NextReady n L w from
    row_ready = rw g.place (next_ready a.plain k w g.rows g.few room)

    module _ (w₁ : List ℤ) (v : ℕ) (d : NextDone n (plain_of L) w from w₁ v) where
      done : NextDone n (plain_of L) w (k * n) w₁ v
      done = subst (λ (x : ℕ). NextDone n (plain_of L) w x w₁ v) g.place d

      rows : Standing (plain_of L) n w₁ (suc k)
      rows = standing_more a.plain k w g.rows g.few room w₁ v done

      since : Scratch 0 (plain_end n) w₀ w₁
      since = scratch_trans g.scratch (scratch_wider (omega arith) (omega (arith, row_before n (suc k) g.few)) (next_scratch a.plain k w g.rows g.few room w₁ v done))

      long : length w₁ ≡ length w₀
      long = since.same_length

      -- the entries of the last row but one, as numbers
      value : (p : ℕ) → p < n → (z : ℤ) × (at (zero_at (plain_of L) n k) p ≡ some z)
      value p h = zero_some (plain_of L) n k p h

      value_at : (p : ℕ) (h : p < n) → number w₁ (from + p) ≡ (value p h).0
      value_at p h = ap (λ (x : ℕ). number w₁ (x + p)) g.place ∙ rows.rows k (omega arith) p h ∙ ap stored (value p h).1

      value_small : (p : ℕ) → p < n → Within max_distance (number w₁ (from + p))
      value_small p h = rw (value_at p h) (zero_short a.plain k (omega (arith, g.few)) p (value p h).0 (value p h).1)

      -- ---- nothing changed: the row is a potential
      module _ (h : n ≤ v) where
        pub double_ready : (to : ℕ) → to ≡ walk_at_lem n → DoubleReady from to n w₁
        double_ready to e = record {
          before = omega (arith, e, g.place, row_before n k (omega (arith, g.few)));
          room = omega (arith, e, a.work_room, long);
          small = value_small;
        }

        same : zero_at (plain_of L) n (suc k) ≡ zero_at (plain_of L) n k
        same = not_changed a.plain k w g.rows g.few room w₁ v done h

        abbrev π : ℕ → ℤ
        π p = number w₁ (from + p)

        is : (p : ℕ) → p < n → at (zero_at (plain_of L) n k) p ≡ some (number w₁ (from + p))
        is p l = (value p l).1 ∙ ap some (sym (value_at p l))

        pub searched_yes : (to : ℕ) → to ≡ walk_at_lem n → (w₂ : List ℤ) → Doubled from to n w₁ w₂ n → PlainSearched n L R w₀ R w₂ false
        searched_yes to e w₂ t = record {
          clear = fixed_clear (plain_of L) n (ends_within a.plain) k π is same;
          on_no = λ z. never (cc);
          on_yes = λ _. (
            refl,
            record {
              potential = π;
              is_potential = fixed_potential (plain_of L) n (ends_within a.plain) k π is same;
              twice = λ p l. ap (λ (x : ℕ). number w₂ (x + p)) (sym e) ∙ t.twice p l;
              small = value_small;
            },
          );
          scratch = scratch_trans since (scratch_wider (omega arith) (omega (arith, e)) t.scratch);
        }

      -- ---- the entry of v changed
      module _ (h : v < n) where
        pub refute_ready : (R₁ : List ℕ) → R₁ ≡ R → RefuteReady n L (k + 1) v R₁ w₁
        refute_ready R₁ e = record {
          walk = record {
            plain = a.plain;
            room = omega (arith, a.work_room, long);
            few = omega (arith, g.few);
            rows = rw (add-one k) rows;
            within = h;
            last = k;
            top_is = add-one k;
            changed = is_changed a.plain k w g.rows g.few room w₁ v done h;
          };
          room = rw e a.room;
        }

        module _ (R₁ R₂ : List ℕ) (e : R₁ ≡ R) (w₂ : List ℤ) (r : Bool) (f : BackRefuted n L (k + 1) R₁ w₁ R₂ w₂ r) where
          after : Scratch 0 (plain_end n) w₀ w₂
          after = scratch_trans since (scratch_wider (omega arith) (omega arith) f.scratch)

          pub searched_no : r ≡ true → PlainSearched n L R w₀ R₂ w₂ true
          searched_no q = record {
            clear = (f.on_yes q).negative;
            on_no = λ _. subst (λ (x : List ℕ). ShownPlain n L x R₂) e (f.on_yes q);
            on_yes = λ z. never (cc);
            scratch = after;
          }

          pub going_more : r ≡ false → (R₂ ≡ R) × Going n L w₀ w₂ (k + 1) (from + n)
          going_more q = (
            (f.on_no q).0 ∙ e,
            record {
              few = (f.on_no q).1;
              place = omega (arith, g.place);
              rows = rw (add-one k) (standing_kept (row_before n (suc k) g.few) f.scratch rows);
              scratch = after;
            },
          )
