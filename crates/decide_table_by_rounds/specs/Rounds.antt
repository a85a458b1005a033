-- The rounds over the whole table: what stands after k of them, and what each way out of the loop says.
use Rattle.std.specs.Prelude.{◌≡◌, refl, Bool, true, false, ℕ, suc, ◌+◌, ◌*◌, ◌^◌, ◌/◌, ◌%◌, ◌-◌, ◌<◌, ◌≤◌, ℤ, pos, length, take, drop}
use Rattle.std.proofs.Common.{sym, ap₂, subst, ◌∙◌, inr, mul-le-mul_right, mod-lt, div-add-mod', div-lt_iff_lt-mul, add-one, arith, length-append, length-take, length-drop, length-take-le, take_at, drop_at, drop-drop, ext_get_or}
use Rattle.std.proofs.Math.Path.{ap}
use mathlib.Core.List.{List, ◌++◌, append_assoc}
use Rattle.std.proofs.Math.Decide.{dec_lt}
use Rattle.std.proofs.lemmas.List.{length-map}
use Rattle.integers.specs.Laws.{never}
use Rattle.integers.specs.Table.{all_below, below_at, below_all}
use Rattle.lines.specs.Limits.{max_variables}
use Rattle.lines.specs.Line.{number, lines_of}
use Rattle.lines.specs.Valid.{all_ok}
use Rattle.steps.specs.declared.Step.{Step}
use Rattle.steps.specs.Step.{steps_of}
use Rattle.theory_walks.specs.Distance.{Distance}
use Rattle.theory_walks.specs.Row.{WithinPoints, at, relax_row, best, row_zero, start_self}
use Rattle.theory_walks.specs.Negative.{not_below0, no_negative}
use Rattle.theory_walks.specs.Wide.{wide}
use Rattle.theory_walks.specs.AllPairs.{start_table_lem, table_at, table_zero, table_suc, table_length, table_at_law, table_all, table_fixed, table_negative, table_best}
use Rattle.theory_walks.specs.Graph.{ends_points}
use Rattle.decide_rows.specs.Stored.{stored, stored_row}
use Rattle.decide_rows.specs.Copy.{copied, CopyReady}
use Rattle.decide_rows.specs.Read.{row_of, Short, AllShort, max_distance, short_more, row_of_stored, at_row_of, stored_of}
use Rattle.decide_rows.specs.Next.{row_in, with_next, same_rows, same_rows_law, RowReady, RowDone}
use Rattle.decide_rows.specs.Rows.{rows_short, middle, behind}
use Rattle.decide_rows.specs.Table.{stored_table, table_start, TableReady, table_length as stored_length, stored_at}
use Rattle.decide_stored_table.specs.Table.{table_of, ShortTable}
use Rattle.integers.specs.Lowest.{first_failing_lem, none_fails, first_failing}
use Rattle.decide_table_by_rounds.specs.Made.{TableMade}

-- after k rounds: the table, with no negative number on its diagonal; what lies behind it is as it was
pub record Turn (E : List Step) (m : ℕ) (w₀ w : List ℤ) (k : ℕ) : Type 0 where
  pub count : k ≤ m
  pub table : row_in (m * m) w (table_start m) ≡ stored_row (table_at E m k)
  pub clear : (u : ℕ) → u < m → not_below0 (at (table_at E m k) (u * m + u)) ≡ true
  pub same_length : length w ≡ length w₀
  pub rest : drop (table_start m + m * m) w ≡ drop (table_start m + m * m) w₀

-- ---- places: the old table stands between the first m numbers and the new one
start_is : (m : ℕ) → table_start m ≡ m + m * m
start_is m = omega arith

-- no place of the table in bytes comes near 64 bits
pub start_small : (n : ℕ) → n ≤ max_variables → (2 * n + 2 * n * (2 * n)) * 8 < 2 ^ 32
start_small n few =
    let l : 2 * n ≤ 2 * max_variables = omega arith in
    omega (arith, mul-le-mul_right (2 * n) l)

module _ (n : ℕ) (L w₀ : List ℤ) (a : TableReady n L w₀) where
  abbrev E : List Step
  E = steps_of (lines_of L)

  abbrev m : ℕ
  m = 2 * n

  within : WithinPoints m E
  within = ends_points n (lines_of L) (all_ok n L a.valid)

  -- ---- a table of the rounds is small: it is read back as it was stored
  short : (k : ℕ) → k ≤ m → AllShort max_distance (table_at E m k)
  short k h = table_all E m within (Short max_distance) (λ z e. never (cc)) k (λ u v. rows_short n L a.few a.valid u k h v)

  back : (k : ℕ) → k ≤ m → row_of (stored_row (table_at E m k)) ≡ table_at E m k
  back k h = row_of_stored (table_at E m k) (λ p. short_more (omega arith) (short k h p))

  cells : (k : ℕ) → length (stored_row (table_at E m k)) ≡ m * m
  cells k = length-map (table_at E m k) stored ∙ table_length E m k

  module _ (k : ℕ) (h : k ≤ m) where
    entry : (u v : ℕ) → u < m → v < m → table_of m (stored_row (table_at E m k)) u v ≡ at (table_at E m k) (v * m + u)
    entry u v hu hv =
        let i : v * m + u < length (stored_row (table_at E m k)) = omega (arith, cells k, mul-le-mul_right m hv) in
        sym (at_row_of (stored_row (table_at E m k)) (v * m + u) i) ∙ ap (λ (x : List Distance). at x (v * m + u)) (back k h)

    pub short_table : (t : List ℤ) → t ≡ stored_row (table_at E m k) → ShortTable n t
    short_table t e =
        record {
          variables = a.few;
          size = ap length e ∙ cells k;
          short = λ u v hu hv. rw (ap (λ (x : List ℤ). table_of m x u v) e ∙ entry u v hu hv) (short k h (v * m + u));
        }

  -- ---- the last table is the table of distances
  stored_is : stored_row (table_at E m m) ≡ stored_table E m m
  stored_is = ext_get_or (pos 0) (stored_row (table_at E m m)) (stored_table E m m) (cells m ∙ sym (stored_length E m m)) (λ q h. each q (rw (cells m) at h))
    where
      place : (u v : ℕ) → u < m → v < m → number (stored_row (table_at E m m)) (v * m + u) ≡ number (stored_table E m m) (v * m + u)
      place u v hu hv =
          sym (stored_of (number (stored_row (table_at E m m)) (v * m + u)))
          ∙ ap stored (entry m (omega arith) u v hu hv ∙ table_best E m within u v hu hv)
          ∙ sym (stored_at E m u v hu hv)

      positive : (q : ℕ) → q < m * m → Dec (0 < m) → 0 < m
      positive q h (yes p) = p
      positive q h (no p) = let e : m ≤ 0 = omega arith in absurd (omega (arith, mul-le-mul_right m e))

      each : (q : ℕ) → q < m * m → number (stored_row (table_at E m m)) q ≡ number (stored_table E m m) q
      each q h =
          let p = positive q h (dec_lt 0 m) in
          subst (λ (i : ℕ). number (stored_row (table_at E m m)) i ≡ number (stored_table E m m) i) (div-add-mod' q m) (place (q % m) (q / m) (mod-lt q p) ((div-lt_iff_lt-mul p).1 h))

  module _ (w : List ℤ) (k : ℕ) (t : Turn E m w₀ w k) where
    -- no later table differs
    whole : table_at E m k ≡ table_at E m m → TableMade E m w₀ w m
    unfolding no_negative
    whole e =
        record {
          within = omega arith;
          negative = λ h. absurd (omega arith);
          clear = λ _. below_all m (λ u. not_below0 (best E m u u)) (λ u h. ap not_below0 (sym (table_best E m within u u h h) ∙ ap (λ (x : List Distance). at x (u * m + u)) (sym e)) ∙ t.clear u h);
          table = λ _. t.table ∙ ap stored_row e ∙ stored_is;
          same_length = t.same_length;
          behind = t.rest;
        }

    pub turn_end : k ≡ m → TableMade E m w₀ w m
    turn_end e = whole (ap (table_at E m) e)

  -- ---- one round: the table is copied to the old place, and relaxed behind it
  module _ (w : List ℤ) (k : ℕ) (t : Turn E m w₀ w k) (low : k < m) where
    room : m + 2 * (m * m) ≤ length w
    room = omega (arith, a.room, t.same_length, start_is m)

    pub copy_ready : CopyReady (m + m * m) m (m * m) w
    copy_ready = record { apart = inr (omega arith); from_room = omega (arith, room); to_room = omega (arith, room) }

    module _ (w₁ : List ℤ) (e₁ : w₁ ≡ copied w (m + m * m) m (m * m)) where
      abbrev front : List ℤ
      front = take m w

      abbrev moved : List ℤ
      moved = take (m * m) (drop (m + m * m) w)

      front_length : length front ≡ m
      front_length = length-take-le m w (omega (arith, room))

      moved_length : length moved ≡ m * m
      moved_length = simp (length-take, length-drop) (omega (arith, room))

      old : row_in (m * m) w₁ m ≡ stored_row (table_at E m k)
      old =
          ap (λ (x : List ℤ). row_in (m * m) x m) e₁
          ∙ middle front moved (drop (m + m * m) w) m (m * m) front_length moved_length
          ∙ ap (λ (i : ℕ). take (m * m) (drop i w)) (sym (start_is m)) ∙ t.table

      after_copy : drop (m + m * m) w₁ ≡ drop (m + m * m) w
      after_copy = ap (drop (m + m * m)) e₁ ∙ behind front moved (drop (m + m * m) w) m (m * m) front_length moved_length

      copy_length : length w₁ ≡ length w
      copy_length = ap length e₁ ∙ length-append (front ++ moved) (drop (m + m * m) w) ∙ omega (arith, length-append front moved, front_length, moved_length, length-drop (m + m * m) w, room)

      pub round_ready : RowReady n m L w₁ m
      round_ready = record { few = a.few; valid = a.valid; room = omega (arith, room, copy_length); short = rw (ap row_of old ∙ back k (omega arith)) (short k (omega arith)) }

      module _ (w₂ : List ℤ) (same : Bool) (d : RowDone (m * m) (wide m E) w₁ m w₂ same) where
        abbrev T : List ℤ
        T = stored_row (table_at E m k)

        abbrev T' : List ℤ
        T' = stored_row (table_at E m (suc k))

        abbrev end : List ℤ
        end = drop (m + 2 * (m * m)) w₁

        next_is : with_next (wide m E) (row_in (m * m) w₁ m) ≡ T ++ T'
        next_is =
            ap (with_next (wide m E)) old
            ∙ ap (λ (x : List Distance). T ++ stored_row (relax_row (wide m E) x)) (back k (omega arith))
            ∙ ap (λ (x : List Distance). T ++ stored_row x) (sym (table_suc E m k))

        parts : w₂ ≡ ((take m w₁ ++ T) ++ T') ++ end
        parts =
            d.is ∙ ap (λ (x : List ℤ). take m w₁ ++ (x ++ end)) next_is
            ∙ sym (append_assoc (take m w₁) (T ++ T') end)
            ∙ ap (λ (x : List ℤ). x ++ end) (sym (append_assoc (take m w₁) T T'))

        before_table : length (take m w₁ ++ T) ≡ table_start m
        before_table = length-append (take m w₁) T ∙ omega (arith, length-take-le m w₁ (omega (arith, room, copy_length)), cells k, start_is m)

        new : row_in (m * m) w₂ (table_start m) ≡ T'
        new = ap (λ (x : List ℤ). row_in (m * m) x (table_start m)) parts ∙ middle (take m w₁ ++ T) T' end (table_start m) (m * m) before_table (cells (suc k))

        -- as the part that is looked at
        pub new_part : take (m + m * m + m * m - (m + m * m)) (drop (m + m * m) w₂) ≡ T'
        new_part = let i : m + m * m + m * m - (m + m * m) ≡ m * m = omega arith in ap₂ (λ (j p : ℕ). take j (drop p w₂)) i (sym (start_is m)) ∙ new

        after_round : drop (table_start m + m * m) w₂ ≡ drop (table_start m + m * m) w₀
        after_round =
            let i : m + 2 * (m * m) ≡ m + m * m + m * m = omega arith in
            let j : m + m * m + m * m ≡ table_start m + m * m = omega (arith, start_is m) in
            ap (drop (table_start m + m * m)) parts
            ∙ behind (take m w₁ ++ T) T' end (table_start m) (m * m) before_table (cells (suc k))
            ∙ ap (λ (x : ℕ). drop x w₁) i
            ∙ sym (drop-drop (m * m) (m + m * m) w₁)
            ∙ ap (drop (m * m)) after_copy
            ∙ drop-drop (m * m) (m + m * m) w
            ∙ ap (λ (x : ℕ). drop x w) j
            ∙ t.rest

        round_length : length w₂ ≡ length w₀
        round_length =
            ap length parts ∙ length-append ((take m w₁ ++ T) ++ T') end
            ∙ omega (arith, length-append (take m w₁ ++ T) T', before_table, cells (suc k), length-drop (m + 2 * (m * m)) w₁, room, copy_length, t.same_length, start_is m)

        -- the first negative number on the diagonal, looked for in the new table
        module _ (u : ℕ) (x : List ℤ) (ex : x ≡ T') (e : u ≡ first_failing_lem m (λ v. not_below0 (table_of m x v v))) where
          diagonal : (v : ℕ) → v < m → not_below0 (table_of m x v v) ≡ not_below0 (at (table_at E m (suc k)) (v * m + v))
          diagonal v h = ap not_below0 (ap (λ (y : List ℤ). table_of m y v v) ex ∙ entry (suc k) low v v h h)

          pub turn_point : u < m → TableMade E m w₀ w₂ u
          turn_point h =
              record {
                within = omega arith;
                negative = λ _. table_negative E m within (suc k) u low h (sym (diagonal u h) ∙ go (all_below m (λ v. not_below0 (table_of m x v v))) refl);
                clear = λ i. absurd (omega arith);
                table = λ i. absurd (omega arith);
                same_length = round_length;
                behind = after_round;
              }
            where
              go : (b : Bool) → all_below m (λ v. not_below0 (table_of m x v v)) ≡ b → not_below0 (table_of m x u u) ≡ false
              go true q = absurd (omega (arith, (none_fails m (λ v. not_below0 (table_of m x v v))).1 q))
              go false q = subst (λ (v : ℕ). not_below0 (table_of m x v v) ≡ false) (sym e) (first_failing m (λ v. not_below0 (table_of m x v v)) q).fails

          module _ (none : m ≤ u) where
            pub turn_more : Turn E m w₀ w₂ (k + 1)
            turn_more =
                rw (add-one k)
                (record {
                  count = low;
                  table = new;
                  clear = λ v h. sym (diagonal v h) ∙ below_at m (λ v. not_below0 (table_of m x v v)) (go (all_below m (λ v. not_below0 (table_of m x v v))) refl) v h;
                  same_length = round_length;
                  rest = after_round;
                })
              where
                go : (b : Bool) → all_below m (λ v. not_below0 (table_of m x v v)) ≡ b → b ≡ true
                go true q = refl
                go false q = absurd (omega (arith, none, e, (first_failing m (λ v. not_below0 (table_of m x v v)) q).below))

            -- a round that changed nothing
            pub turn_same : same ≡ true → TableMade E m w₀ w₂ m
            turn_same g =
                let l : length (T ++ T') ≡ 2 * (m * m) = length-append T T' ∙ omega (arith, cells k, cells (suc k)) in
                let s : drop (m * m) (T ++ T') ≡ take (m * m) (T ++ T') = same_rows_law (m * m) (T ++ T') l (ap (same_rows (m * m)) (sym next_is) ∙ sym d.settled ∙ g) in
                let f : table_at E m (suc k) ≡ table_at E m k =
                sym (back (suc k) low) ∙ ap row_of (sym (drop_at T T' (m * m) (cells k)) ∙ s ∙ take_at T T' (m * m) (cells k)) ∙ back k (omega arith) in
                whole w₂ (k + 1) turn_more (ap (table_at E m) (add-one k) ∙ f ∙ table_fixed E m within k (omega arith) f)

-- ---- before the first round: the start is written into w, which leaves w₀
module _ (n : ℕ) (L w : List ℤ) (a : TableReady n L w) (w₀ : List ℤ) (e : w₀ ≡ take (2 * n + 2 * n * (2 * n)) w ++ stored_row (start_table_lem (2 * n) (2 * n)) ++ drop (2 * n + 2 * n * (2 * n) + 2 * n * (2 * n)) w) where
  abbrev N : ℕ
  N = 2 * n

  abbrev G : List Step
  G = steps_of (lines_of L)

  abbrev head : List ℤ
  head = take (table_start N) w

  abbrev first : List ℤ
  first = stored_row (table_at G N 0)

  abbrev tail : List ℤ
  tail = drop (table_start N + N * N) w

  is : w₀ ≡ head ++ first ++ tail
  is = e ∙ ap₂ (λ (i : ℕ) (x : List Distance). take i w ++ stored_row x ++ drop (i + N * N) w) (sym (start_is N)) (sym (table_zero G N))

  head_length : length head ≡ table_start N
  head_length = length-take-le (table_start N) w (omega (arith, a.room))

  first_length : length first ≡ N * N
  first_length = length-map (table_at G N 0) stored ∙ table_length G N 0

  started_length : length w₀ ≡ length w
  started_length = ap length is ∙ length-append (head ++ first) tail ∙ omega (arith, length-append head first, head_length, first_length, length-drop (table_start N + N * N) w, a.room)

  pub started_ready : TableReady n L w₀
  started_ready = record { few = a.few; valid = a.valid; room = omega (arith, a.room, started_length) }

  pub turn_start : Turn G N w₀ w₀ 0
  turn_start =
      record {
        count = omega arith;
        table = ap (λ (x : List ℤ). row_in (N * N) x (table_start N)) is ∙ middle head first tail (table_start N) (N * N) head_length first_length;
        clear = λ u h. ap not_below0 (table_at_law G N (within n L w a) 0 u u h h ∙ ap (λ (x : List Distance). at x u) (row_zero G N u) ∙ start_self N u h);
        same_length = refl;
        rest = refl;
      }

  pub made_from : (w' : List ℤ) (r : ℕ) → TableMade G N w₀ w' r → TableMade G N w w' r
  made_from w' r d =
      record {
        within = d.within;
        negative = d.negative;
        clear = d.clear;
        table = d.table;
        same_length = d.same_length ∙ started_length;
        behind = d.behind ∙ ap (drop (table_start N + N * N)) is ∙ behind head first tail (table_start N) (N * N) head_length first_length;
      }
