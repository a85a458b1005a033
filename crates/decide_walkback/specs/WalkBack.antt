-- A walk read back from the rows of its source, and the turns of the loop that does it.
use Rattle.std.specs.Prelude.{◌≡◌, refl, List, [], ◌∷◌, ◌++◌, map, ℤ, pos, ◌+ℤ◌, length, get_or, set, drop}
use Rattle.std.proofs.Common.{sym, subst, ◌∙◌, append_assoc, mul-le-mul_right, take-append-drop, take-take, take-suc, drop_at, length-take-le}
use Rattle.std.proofs.Math.Path.{ap}
use Prim.Native.Nat.{ℕ, zero, suc, ◌+◌, ◌*◌, ◌-◌, ◌<◌, ◌≤◌}
use native.Mathlib.Omega.{arith}
use Rattle.std.proofs.Math.Decide.{dec_lt}
use Rattle.std.proofs.Math.ListN.{take, length-append, length-drop}
use Rattle.std.proofs.lemmas.List.{length-map, drop-append-le, set_at}
use Rattle.std.proofs.Math.Seq.{take-nil, take-length, take-append-le}
use Rattle.integers.proofs.Linear.{ints}
use Rattle.lines.specs.Limits.{max_variables}
use Rattle.lines.specs.Line.{lines_of}
use Rattle.lines.specs.Valid.{LinesOk, all_ok}
use Rattle.steps.specs.declared.Step.{Step}
use Rattle.steps.specs.Step.{max_weight, step_numbered_lem, steps_of}
use Rattle.steps.specs.Walk.{Path, total, Names}
use Rattle.theory_walks.specs.Distance.{Distance, some}
use Rattle.theory_walks.specs.Row.{at, relax_row, row_at, at_lt, start_some, row_length, row_zero, row_suc}
use Rattle.theory_walks.specs.Size.{within_more, row_within}
use Rattle.lines.specs.Limits.{absent_greatest}
use Rattle.theory_walks.specs.Graph.{weights_small}
use Rattle.decide_rows.specs.Stored.{stored, stored_row, stored_at, stored_rows}
use Rattle.decide_walkback.specs.Makes.{entry, start_of, made, numbered_start}
use Rattle.decide_walkback.specs.Move.{row_in, SmallRow, MoveOk, Stays, Goes, entry_in, stored_some, not_absent}

-- ---- what the function asks and promises
-- rows 0 to top of the source u stand at the front, the last one's entry at v is a number, and behind them, from a place on, there is room for
-- as many step numbers
pub record RowsStand (n : ℕ) (L : List ℤ) (u : ℕ) (w : List ℤ) (top v place : ℕ) : Type 0 where
  pub few : n ≤ max_variables
  pub lines : LinesOk n L
  pub rounds : top ≤ 2 * n
  pub rows : take (suc top * (2 * n)) w ≡ stored_rows (steps_of (lines_of L)) (2 * n) u (suc top)
  pub value : ℤ
  pub reached : at (row_at (steps_of (lines_of L)) (2 * n) u top) v ≡ some value
  pub behind : suc top * (2 * n) ≤ place
  pub room : place + top ≤ length w

-- the last r of these numbers name, in the walk's order, the steps of a walk from u to v whose sum is that entry; all else is as before
pub record Walked (n : ℕ) (L : List ℤ) (u : ℕ) (w : List ℤ) (top v place : ℕ) (w' : List ℤ) (r : ℕ) : Type 0 where
  pub few : r ≤ top
  pub numbers : List ℕ
  pub count : length numbers ≡ r
  pub area : w' ≡ take (place + top - r) w ++ (map pos numbers ++ drop (place + top) w)
  pub steps : List Step
  pub named : Names L numbers steps
  pub path : Path u steps v
  pub sum : at (row_at (steps_of (lines_of L)) (2 * n) u top) v ≡ some (total steps)

-- ---- a row among rows
take_drop : (N from : ℕ) (l : List ℤ) → take N (drop from l) ≡ drop from (take (from + N) l)
take_drop N zero l = let e : N ≡ 0 + N = omega arith in ap (λ (j : ℕ). take j l) e
take_drop N (suc from) [] = take-nil N ∙ sym (ap (drop (suc from)) (take-nil (suc from + N)))
take_drop N (suc from) (x ∷ l) =
    let e : suc from + N ≡ suc (from + N) = omega arith in
    take_drop N from l ∙ sym (ap (λ (j : ℕ). drop (suc from) (take j (x ∷ l))) e)

-- a row is the same where what reaches beyond it is
same_row : (N from m : ℕ) (w w' : List ℤ) → from + N ≤ m → take m w ≡ take m w' → row_in N w from ≡ row_in N w' from
same_row N from m w w' h e =
    take_drop N from w
    ∙ ap (drop from) (sym (take-take (from + N) m w h) ∙ ap (take (from + N)) e ∙ take-take (from + N) m w' h)
    ∙ sym (take_drop N from w')

row_place : (k N : ℕ) → 0 < k → (k - 1) * N + N ≡ k * N
row_place zero N h = absurd (omega arith)
row_place (suc k) N h = let f : suc k - 1 ≡ k = omega arith in rw f (omega arith)

row_end : (j k N : ℕ) → j < k → j * N + N ≤ k * N
row_end j k N h = omega (arith, mul-le-mul_right N h)

module _ (E : List Step) (N u : ℕ) where
  stored_length : (k : ℕ) → length (stored_row (row_at E N u k)) ≡ N
  stored_length k = length-map (row_at E N u k) stored ∙ row_length E N u k

  rows_length : (k : ℕ) → length (stored_rows E N u k) ≡ k * N
  unfolding stored_rows
  rows_length zero = omega arith
  rows_length (suc k) = length-append (stored_rows E N u k) (stored_row (row_at E N u k)) ∙ omega (arith, rows_length k, stored_length k)

  row_of_rows : (j k : ℕ) → j < k → row_in N (stored_rows E N u k) (j * N) ≡ stored_row (row_at E N u j)
  unfolding stored_rows
  row_of_rows j zero h = absurd (omega arith)
  row_of_rows j (suc k) h = go (dec_lt j k) (row_of_rows j k)
    where
      go : Dec (j < k) → (j < k → row_in N (stored_rows E N u k) (j * N) ≡ stored_row (row_at E N u j))
          → row_in N (stored_rows E N u k ++ stored_row (row_at E N u k)) (j * N) ≡ stored_row (row_at E N u j)
      go (yes l) earlier =
          ap (take N) (drop-append-le (j * N) (stored_rows E N u k) (stored_row (row_at E N u k)) (omega (arith, row_end j k N l, rows_length k)))
          ∙ take-append-le N (drop (j * N) (stored_rows E N u k)) (stored_row (row_at E N u k)) (omega (arith, row_end j k N l, rows_length k, length-drop (j * N) (stored_rows E N u k)))
          ∙ earlier l
      go (no l) earlier =
          let e : j ≡ k = omega arith in
          rw e
          (ap (take N) (drop_at (stored_rows E N u k) (stored_row (row_at E N u k)) (k * N) (rows_length k))
          ∙ ap (λ (m : ℕ). take m (stored_row (row_at E N u k))) (sym (stored_length k))
          ∙ take-length (stored_row (row_at E N u k)))

-- ---- one number more, in front of what is written
pub set_last : (w ys : List ℤ) (s : ℕ) (z : ℤ) → s < length w → set (take (s + 1) w ++ ys) s z ≡ take s w ++ (z ∷ ys)
set_last w ys s z h =
    let e : s + 1 ≡ suc s = omega arith in
    ap (λ (xs : List ℤ). set (xs ++ ys) s z) (ap (λ (m : ℕ). take m w) e ∙ take-suc w s (pos 0) h)
    ∙ ap (λ (xs : List ℤ). set xs s z) (append_assoc (take s w) (get_or w s (pos 0) ∷ []) ys)
    ∙ set_at (take s w) (get_or w s (pos 0)) ys z s (length-take-le s w (omega arith))

-- ---- the loop
-- k rows are still to be gone back, from the point p; the numbers from the slot on name a walk from p to v
pub record Reading (n : ℕ) (L : List ℤ) (u : ℕ) (w₀ : List ℤ) (top v place : ℕ) (w : List ℤ) (k slot p : ℕ) : Type 0 where
  pub few : k ≤ top
  pub free : place + k ≤ slot
  pub numbers : List ℕ
  pub count : slot + length numbers ≡ place + top
  pub area : w ≡ take slot w₀ ++ (map pos numbers ++ drop (place + top) w₀)
  pub steps : List Step
  pub named : Names L numbers steps
  pub path : Path p steps v
  pub value : ℤ
  pub reached : at (row_at (steps_of (lines_of L)) (2 * n) u k) p ≡ some value
  pub sum : at (row_at (steps_of (lines_of L)) (2 * n) u top) v ≡ some (value +ℤ total steps)

plus_zero : (x : ℤ) → x ≡ x +ℤ pos 0
plus_zero x = simp ints (omega arith)

zero_plus : (x : ℤ) → pos 0 +ℤ x ≡ x
zero_plus x = simp ints (omega arith)

regroup : (x w y z : ℤ) → x +ℤ w ≡ y → y +ℤ z ≡ x +ℤ (w +ℤ z)
regroup x w y z = simp ints (omega arith)

module _ (n : ℕ) (L : List ℤ) (u : ℕ) (w₀ : List ℤ) (top v place : ℕ) (a : RowsStand n L u w₀ top v place) where
  abbrev E : List Step
  E = steps_of (lines_of L)

  abbrev row : ℕ → List Distance
  row k = row_at E (2 * n) u k

  row_small : (k : ℕ) → k ≤ top → SmallRow (row k)
  row_small k h p z e =
      let few : k ≤ 2 * max_variables = omega (arith, a.rounds, a.few) in
      within_more (mul-le-mul_right max_weight few) (row_within max_weight E (weights_small n (lines_of L) (all_ok n L a.lines)) (2 * n) u k p z e)

  -- nothing is read back yet
  pub reading_start : Reading n L u w₀ top v place w₀ top (place + top) v
  reading_start =
      record {
        few = omega arith;
        free = omega arith;
        numbers = [];
        count = omega arith;
        area = sym (take-append-drop (place + top) w₀);
        steps = [];
        named = tt;
        path = refl;
        value = a.value;
        reached = a.reached;
        sum = a.reached ∙ ap some (plus_zero a.value);
      }

  module _ (w : List ℤ) (k slot p : ℕ) (b : Reading n L u w₀ top v place w k slot p) where
    slot_in : slot ≤ length w₀
    slot_in = omega (arith, b.count, a.room)

    pub same_size : length w ≡ length w₀
    same_size =
        ap length b.area
        ∙ length-append (take slot w₀) (map pos b.numbers ++ drop (place + top) w₀)
        ∙ omega (arith, length-take-le slot w₀ slot_in, length-append (map pos b.numbers) (drop (place + top) w₀), length-map b.numbers pos, length-drop (place + top) w₀, b.count, a.room)

    same_front : take place w ≡ take place w₀
    same_front =
        ap (take place) b.area
        ∙ take-append-le place (take slot w₀) (map pos b.numbers ++ drop (place + top) w₀) (omega (arith, length-take-le slot w₀ slot_in, b.free))
        ∙ take-take place slot w₀ (omega (arith, b.free))

    -- the rows are still there
    row_is : (j : ℕ) → j ≤ top → row_in (2 * n) w (j * (2 * n)) ≡ stored_row (row j)
    row_is j h =
        let m = suc top * (2 * n) in
        let f : j * (2 * n) + 2 * n ≤ suc top * (2 * n) = row_end j (suc top) (2 * n) (omega arith) in
        same_row (2 * n) (j * (2 * n)) place w w₀ (omega (arith, f, a.behind)) same_front
        ∙ same_row (2 * n) (j * (2 * n)) m w₀ (take m w₀) f (sym (take-take m m w₀ (omega arith)))
        ∙ ap (λ (l : List ℤ). row_in (2 * n) l (j * (2 * n))) a.rows
        ∙ row_of_rows E (2 * n) u j (suc top) (omega arith)

    module _ (h : 0 < k) where
      -- where the row before begins
      abbrev before : ℕ
      before = (k - 1) * (2 * n)

      old_is : row_in (2 * n) w before ≡ stored_row (row (k - 1))
      old_is = row_is (k - 1) (omega (arith, b.few))

      next_place : before + 2 * n ≡ k * (2 * n)
      next_place = row_place k (2 * n) h

      row_next : row k ≡ relax_row E (row (k - 1))
      row_next = let e : k ≡ suc (k - 1) = omega arith in ap row e ∙ row_suc E (2 * n) u (k - 1)

      new_is : row_in (2 * n) w (before + 2 * n) ≡ stored_row (row k)
      new_is = ap (row_in (2 * n) w) next_place ∙ row_is k b.few

      inside : p < 2 * n
      inside = rw (row_length E (2 * n) u k) at (at_lt (row k) p b.value b.reached)

      pub reading_move : MoveOk n L w before p (slot - 1)
      reading_move =
          record {
            few = a.few;
            lines = a.lines;
            row = row (k - 1);
            size = row_length E (2 * n) u (k - 1);
            small = row_small (k - 1) (omega (arith, b.few));
            old = old_is;
            new = new_is ∙ ap stored_row row_next;
            within = inside;
            value = b.value;
            reached = ap (λ (r : List Distance). at r p) (sym row_next) ∙ b.reached;
            behind = omega (arith, next_place, row_end k (suc top) (2 * n) (omega (arith, b.few)), a.behind, b.free);
            room = omega (arith, same_size, slot_in, b.free);
          }

      -- the entry of row k at p, where it stands
      here_is : entry w (before + 2 * n + p) ≡ b.value
      here_is =
          sym (entry_in (2 * n) w (before + 2 * n) p inside)
          ∙ ap (λ (r : List ℤ). entry r p) new_is
          ∙ stored_at (row k) p (at_lt (row k) p b.value b.reached)
          ∙ ap stored b.reached

      -- an entry of row k - 1 that is not the number for no walk
      old_some : (q : ℕ) → q < 2 * n → (entry (row_in (2 * n) w before) q ≡ absent_greatest → ⊥) → at (row (k - 1)) q ≡ some (entry (row_in (2 * n) w before) q)
      old_some q l d =
          let e : entry (row_in (2 * n) w before) q ≡ stored (at (row (k - 1)) q) =
          ap (λ (r : List ℤ). entry r q) old_is ∙ stored_at (row (k - 1)) q (omega (arith, l, row_length E (2 * n) u (k - 1))) in
          stored_some (at (row (k - 1)) q) (λ f. d (e ∙ f)) ∙ ap some (sym e)

      module _ (w' : List ℤ) where
        pub reading_stays : Stays (2 * n) w before p w' → Reading n L u w₀ top v place w' (k - 1) slot p
        reading_stays s =
            let f : entry (row_in (2 * n) w before) p ≡ b.value = entry_in (2 * n) w before p inside ∙ s.same ∙ here_is in
            rw s.area
            (record {
              few = omega (arith, b.few);
              free = omega (arith, b.free);
              numbers = b.numbers;
              count = b.count;
              area = b.area;
              steps = b.steps;
              named = b.named;
              path = b.path;
              value = b.value;
              reached = old_some p inside (λ q. not_absent b.value (row_small k b.few p b.value b.reached) (sym f ∙ q)) ∙ ap some f;
              sum = b.sum;
            })

        pub reading_goes : (j : ℕ) → Goes (2 * n) L w before p (slot - 1) w' j → Reading n L u w₀ top v place w' (k - 1) (slot - 1) (start_of (step_numbered_lem L j))
        reading_goes j g =
            let m = made L (row_in (2 * n) w before) p (entry w (before + 2 * n + p)) j g.maker.makes in
            let t = m.step in
            let x = entry (row_in (2 * n) w before) t.from in
            let f : slot - 1 + 1 ≡ slot = omega (arith, b.free) in
            let y : x +ℤ t.weight ≡ b.value = m.is.sum ∙ here_is in
            let from : start_of (step_numbered_lem L j) ≡ t.from = ap start_of m.named in
            rw from
            (record {
              few = omega (arith, b.few);
              free = omega (arith, b.free);
              numbers = j ∷ b.numbers;
              count = omega (arith, b.count, b.free);
              area = g.area
                  ∙ ap (λ (l : List ℤ). set l (slot - 1) (pos j)) (b.area ∙ ap (λ (i : ℕ). take i w₀ ++ (map pos b.numbers ++ drop (place + top) w₀)) (sym f))
                  ∙ set_last w₀ (map pos b.numbers ++ drop (place + top) w₀) (slot - 1) (pos j) (omega (arith, slot_in, b.free));
              steps = t ∷ b.steps;
              named = (m.named, b.named);
              path = (refl, rw m.is.ends b.path);
              value = x;
              reached = old_some t.from (numbered_start n L j t a.lines m.named) m.is.known;
              sum = b.sum ∙ ap some (regroup x t.weight b.value (total b.steps) y);
            })

    -- all rows are gone back: row 0 has a number at u alone, and it is 0
    pub reading_end : k ≡ 0 → Walked n L u w₀ top v place w (place + top - slot)
    reading_end e =
        let s = start_some (2 * n) u p b.value (ap (λ (r : List Distance). at r p) (sym (ap row e ∙ row_zero E (2 * n) u)) ∙ b.reached) in
        let f : place + top - (place + top - slot) ≡ slot = omega (arith, b.count) in
        record {
          few = omega (arith, b.free);
          numbers = b.numbers;
          count = omega (arith, b.count);
          area = rw f b.area;
          steps = b.steps;
          named = b.named;
          path = subst (λ (x : ℕ). Path x b.steps v) s.0 b.path;
          sum = b.sum ∙ ap some (ap (λ (x : ℤ). x +ℤ total b.steps) s.1 ∙ zero_plus (total b.steps));
        }
