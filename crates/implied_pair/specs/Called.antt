-- What the search leaves gives the call: each of its ways out.
use Rattle.std.specs.Prelude.{◌≡◌, refl, Bool, true, false, not, List, ◌++◌, ℕ, ◌+◌, ◌*◌, ◌^◌, ◌<◌, ◌≤◌, ltb, ℤ, pos, length, drop, replicate, Err, None, Ok, Result, Some}
use Rattle.std.proofs.Common.{sym, ap, subst, ◌∙◌, arith, ltb-true, ltb-false, lt-ltb, le-ltb}
use Rattle.std.proofs.Math.Path.{ap₂}
use Rattle.std.proofs.lemmas.Bool.{not-false}
use Rattle.std.proofs.lemmas.List.{length-replicate}
use Rattle.lines.specs.declared.Refusal.{Refusal}
use Rattle.lines.specs.Limits.{max_variables}
use Rattle.lines.specs.Line.{lines_of}
use Rattle.lines.specs.Refusal.{validity_of, refuse_if}
use Rattle.lines.specs.Valid.{ListOk, or_valid, not_refused, valid_list, workable}
use Rattle.theory_bounds.specs.Verdict.{distances, verdict_of}
use Rattle.decide_buffers.specs.Room.{refutation_room_lem, work_room_lem, work_small}
use Rattle.decide_rows.specs.Table.{table_start}
use Rattle.decide_stored_table.specs.Table.{table_of, ShortTable}
use Rattle.decide_yes.specs.Table.{table_for, short_table}
use Rattle.decide.specs.Searched.{SearchReady, Searched, table_in}
use Rattle.decide.specs.Decided.{cleared, used_room_law, cleared_is}
use Rattle.implied_pair.specs.declared.Pair.{Pair}
use Rattle.implied_pair.specs.Pair.{pair_in_lem, pair_validity_lem, called, judged, unless_refused, pair_call}
use Rattle.implied_pair.specs.Reading.{pair_agrees}

-- ---- nothing is refused
pub record PairOk (n : ℕ) (L : List ℤ) (x y size : ℕ) : Type 0 where
  pub list : validity_of n L ≡ Ok tt
  pub x_below : x < n
  pub y_below : y < n
  pub room : work_room_lem n ≤ size

pub pair_ok : (n : ℕ) (L : List ℤ) (x y size : ℕ) → pair_validity_lem n L x y size ≡ Ok tt → PairOk n L x y size
unfolding pair_validity_lem
pair_ok n L x y size e =
    let p = or_valid (validity_of n L) _ e in
    let q = or_valid (refuse_if (not (ltb x n)) _) _ p.1 in
    let r = or_valid (refuse_if (not (ltb y n)) _) _ q.1 in
    record { list = p.0; x_below = below x _ q.0; y_below = below y _ r.0; room = ltb-false size (work_room_lem n) (not_refused _ _ r.1) }
  where
    below : (k : ℕ) (s : Refusal) → refuse_if (not (ltb k n)) s ≡ Ok tt → k < n
    below k s z = ltb-true k n (not-false _ (not_refused _ _ z))

pub ok_pair : (n : ℕ) (L : List ℤ) (x y size : ℕ) → PairOk n L x y size → pair_validity_lem n L x y size ≡ Ok tt
unfolding pair_validity_lem
ok_pair n L x y size o = rw (o.list, lt-ltb x n o.x_below, lt-ltb y n o.y_below, le-ltb size (work_room_lem n) o.room)

module _ (n : ℕ) (L : List ℤ) (x y : ℕ) (w : List ℤ) where
  call_by : (v : Result Unit Refusal) (t : Bool) → pair_validity_lem n L x y (length w) ≡ v → verdict_of n (lines_of L) ≡ t
      → pair_call n L x y w ≡ unless_refused v (called (Ok (judged t (pair_in_lem (distances n (lines_of L)) x y))) (cleared n w)) w
  unfolding pair_call
  call_by v t e f = ap₂ (λ (u : Result Unit Refusal) (b : Bool). unless_refused u (called (Ok (judged b (pair_in_lem (distances n (lines_of L)) x y))) (cleared n w)) w) e f

  pub refused : (r : Refusal) → pair_validity_lem n L x y (length w) ≡ Err r → called (Err r) w ≡ pair_call n L x y w
  refused r e = sym (call_by (Err r) _ e refl)

  module _ (e : pair_validity_lem n L x y (length w) ≡ Ok tt) where
    ok : PairOk n L x y (length w)
    ok = pair_ok n L x y (length w) e

    list_ok : ListOk n L
    list_ok = valid_list n L ok.list

    pub few : n ≤ max_variables
    few = list_ok.variables

    pub start_small : table_start (2 * n) * 8 < 2 ^ 32
    start_small = omega (arith, used_room_law n, work_small n few)

    -- a refutation is not asked for, so that zeros are lent for it
    pub search_ready : SearchReady n L (replicate (refutation_room_lem max_variables) 0) w
    search_ready =
        record {
          valid = workable n L ok.list;
          room = omega (arith, length-replicate {A = ℕ} (refutation_room_lem max_variables) 0, few);
          work_room = omega (arith, used_room_law n, ok.room);
        }

    -- the search is done
    module _ {R R₁ : List ℕ} {w₁ : List ℤ} {found : Bool} (k : Searched n L R w R₁ w₁ found) where
      pub room_left : work_room_lem n ≤ length w₁
      room_left = omega (arith, k.same_length, ok.room)

      pub table_fits : table_start (2 * n) + 2 * n * (2 * n) ≤ length w₁
      table_fits = omega (arith, room_left, used_room_law n)

      -- it found a refutation
      pub unsolvable : found ≡ true → (w₂ : List ℤ) → w₂ ≡ replicate (work_room_lem n) (pos 0) ++ drop (work_room_lem n) w₁ → called (Ok None) w₂ ≡ pair_call n L x y w
      unsolvable t w₂ z = ap (called (Ok None)) (cleared_is n w w₁ w₂ k.behind z) ∙ sym (call_by (Ok tt) false e (k.verdict ∙ ap not t))

    -- it found none: the table stands
    module _ {R R₁ : List ℕ} {w₁ : List ℤ} (k : Searched n L R w R₁ w₁ false) where
      table_is : table_in n w₁ ≡ table_for n L
      table_is = (k.on_yes refl).1

      pub pair_ready : ShortTable n (table_in n w₁) × (x < n) × (y < n)
      pair_ready = (subst (ShortTable n) (sym table_is) (short_table n L few list_ok.lines), ok.x_below, ok.y_below)

      pub implied : (w₂ : List ℤ) → w₂ ≡ replicate (work_room_lem n) (pos 0) ++ drop (work_room_lem n) w₁ → (pair : Pair) → pair ≡ pair_in_lem (table_of (2 * n) (table_in n w₁)) x y
          → called (Ok (Some pair)) w₂ ≡ pair_call n L x y w
      implied w₂ z pair i =
          ap₂ (λ (p : Pair). called (Ok (Some p))) (i ∙ ap (λ (t : List ℤ). pair_in_lem (table_of (2 * n) t) x y) table_is ∙ pair_agrees n L few list_ok.lines x y ok.x_below ok.y_below) (cleared_is n w w₁ w₂ k.behind z)
          ∙ sym (call_by (Ok tt) true e k.verdict)
