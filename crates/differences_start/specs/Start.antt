-- How the table begins: far everywhere, 0 on the diagonal, and for each line its reduced weight, where that is lower.
use Rattle.std.specs.Prelude.{◌≡◌, refl, List, [], ◌∷◌, ℕ, ◌+◌, ◌*◌, ◌≤◌, ◌<◌, ℤ, pos, ◌+ℤ◌, ◌-ℤ◌, length, set}
use Rattle.std.proofs.Common.{sym, subst, ◌∙◌, arith}
use Rattle.std.proofs.Math.Decide.{ℕ_discrete}
use Rattle.integers.specs.Integer.{◌⩽◌, ◌⋖◌, Within}
use Rattle.integers.proofs.Linear.{ints, zs}
use Rattle.lines.specs.Limits.{max_variables}
use Rattle.lines.specs.Line.{number, line_at, line_count}
use Rattle.steps.specs.declared.Step.{Step}
use Rattle.steps.specs.Step.{max_weight}
use Rattle.theory_walks.specs.Distance.{le_refl, le_trans}
use Rattle.theory_walks.specs.Row.{In}
use Rattle.theory_walks.specs.Reach.{walk_none}
use Rattle.theory_differences.specs.Plain.{plain_step_lem}
use Rattle.theory_differences.specs.Numbers.{plain_line}
use Rattle.theory_differences.specs.Through.{Under, Through, through_none}
use Rattle.engine_packed_steps.specs.Scratch.{Scratch, scratch_none, scratch_trans, scratch_set, scratch_behind}
use Rattle.engine_reduced_table.specs.Reduced.{far, max_potential, Entry, entry_far, entry_step}
use Rattle.engine_reduced_table.specs.Weight.{reduced_weight}
use Rattle.engine_closed_walk.specs.Filled.{Filled}
use Rattle.differences_lines.specs.PlainList.{PlainList, plain_of, ends_within, weights_within, step_among}
use Rattle.differences_rows.specs.Layout.{walk_at_lem, plain_end}
use Rattle.differences_closing.specs.Entries.{cell, entry_in, row_end, cell_lt, Entries, set_entry, set_apart, set_all, set_no_more}

-- the numbers of variables, behind the table
abbrev pub point_of : ℕ → List ℤ → ℕ → ℤ
point_of n w p = number w (walk_at_lem n + p)

-- they are kept where only the table changes
pub point_kept : (n : ℕ) {w w' : List ℤ} → Scratch 0 (n * n) w w' → (p : ℕ) → point_of n w' p ≡ point_of n w p
point_kept n s p = scratch_behind s (walk_at_lem n + p) (omega arith)

-- a step's weight on these
abbrev pub reduced : ℕ → List ℤ → Step → ℤ
reduced n w t = reduced_weight (walk_at_lem n) w t

-- ---- what is asked: the numbers of variables are small, and make the weights no less than 0
pub record StartReady (n : ℕ) (L w : List ℤ) : Type 0 where
  pub plain : PlainList n L
  pub room : plain_end n ≤ length w
  pub small : (p : ℕ) → p < n → Within max_potential (point_of n w p)
  pub positive : (t : Step) → In t (plain_of L) → pos 0 ⩽ reduced n w t

-- the table may change
pub numbers_kept : {n : ℕ} {L w w' : List ℤ} → StartReady n L w → Scratch 0 (n * n) w w' → StartReady n L w'
numbers_kept {n} r s = record {
  plain = r.plain;
  room = omega (arith, r.room, s.same_length);
  small = λ p h. rw (point_kept n s p) (r.small p h);
  positive = λ t i. rw (point_kept n s t.from, point_kept n s t.to) (r.positive t i);
}

-- ---- far everywhere, and 0 on the diagonal: the loop, after the first k variables
pub record DiagonalReady (n : ℕ) (w : List ℤ) : Type 0 where
  pub few : n ≤ max_variables
  pub room : plain_end n ≤ length w
  pub far_away : (i j : ℕ) → i < n → j < n → entry_in n w i j ≡ pos far

pub record Diagonal (n : ℕ) (w w' : List ℤ) (k : ℕ) : Type 0 where
  pub count : k ≤ n
  pub scratch : Scratch 0 (n * n) w w'
  pub zero : (i : ℕ) → i < k → entry_in n w' i i ≡ pos 0
  pub far_away : (i j : ℕ) → i < n → j < n → (i ≡ j → ⊥) → entry_in n w' i j ≡ pos far

pub diagonal_start : {n : ℕ} {w : List ℤ} → DiagonalReady n w → Diagonal n w w 0
diagonal_start {n} {w} r = record { count = omega arith; scratch = scratch_none 0 (n * n) w; zero = λ i h. absurd (omega arith); far_away = λ i j hi hj _. r.far_away i j hi hj }

pub diagonal_more : {n : ℕ} {w w' : List ℤ} {k at : ℕ} → DiagonalReady n w → Diagonal n w w' k → k < n → at ≡ k * n → Diagonal n w (set w' (at + k) (pos 0)) (k + 1)
diagonal_more {n} {w} {w'} {k} {at} r d h e = rw e (record {
  count = omega arith;
  scratch = scratch_trans d.scratch (scratch_set 0 (n * n) w' (k * n + k) (pos 0) (omega arith) (cell_lt n k k h h));
  zero = λ i l. each i l (ℕ_discrete i k);
  far_away = set_all n w' k k h h (pos 0) (λ i j z. (i ≡ j → ⊥) → z ≡ pos far) room (λ c. absurd (c refl)) d.far_away;
})
  where
    room : n * n ≤ length w'
    room = omega (arith, r.room, d.scratch.same_length)

    each : (i : ℕ) → i < k + 1 → Dec (i ≡ k) → entry_in n (set w' (k * n + k) (pos 0)) i i ≡ pos 0
    each i l (yes q) = subst (λ (x : ℕ). entry_in n (set w' (k * n + k) (pos 0)) x x ≡ pos 0) (sym q) (set_entry n w' k k h h (pos 0) room)
    each i l (no q) = set_apart n w' k k h h (pos 0) i i (omega (arith, l, h)) q ∙ d.zero i (omega (arith, l, q))

-- ---- the entries of lines
pub record PutReady (n : ℕ) (L w : List ℤ) : Type 0 where
  pub numbers : StartReady n L w
  pub entries : Entries (plain_of L) (point_of n w) n w

-- whatever is put, entries are lowered
pub record Put (n : ℕ) (L w w' : List ℤ) : Type 0 where
  pub scratch : Scratch 0 (n * n) w w'
  pub no_more : (i j : ℕ) → i < n → j < n → entry_in n w' i j ⩽ entry_in n w i j
  pub ready : PutReady n L w'

-- the entry of line number k is no more than its reduced weight, by the numbers of w
abbrev pub UnderLine : ℕ → List ℤ → ℕ → List ℤ → List ℤ → Type 0
UnderLine n L k w w' = entry_in n w' (plain_step_lem (line_at L k)).from (plain_step_lem (line_at L k)).to ⩽ reduced n w (plain_step_lem (line_at L k))

pub record LinePut (n : ℕ) (L : List ℤ) (k : ℕ) (w w' : List ℤ) : Type 0 where
  pub put : Put n L w w'
  pub under : UnderLine n L k w w'

pub put_none : {n : ℕ} {L w : List ℤ} → PutReady n L w → Put n L w w
put_none {n} {L} {w} r = record { scratch = scratch_none 0 (n * n) w; no_more = λ i j hi hj. le_refl _; ready = r }

pub put_trans : {n : ℕ} {L w w' w'' : List ℤ} → Put n L w w' → Put n L w' w'' → Put n L w w''
put_trans a b = record { scratch = scratch_trans a.scratch b.scratch; no_more = λ i j hi hj. le_trans (b.no_more i j hi hj) (a.no_more i j hi hj); ready = b.ready }

-- one line
module _ {n : ℕ} {L w : List ℤ} (r : PutReady n L w) (k : ℕ) (h : k < line_count L) (t : Step) (e : t ≡ plain_step_lem (line_at L k)) where
  among : In t (plain_of L)
  among = subst (λ (x : Step). In x (plain_of L)) (sym e) (step_among r.numbers.plain k h)

  pub from_lt : t.from < n
  from_lt = (ends_within r.numbers.plain t among).0

  pub to_lt : t.to < n
  to_lt = (ends_within r.numbers.plain t among).1

  pub to_row : t.to * n + n ≤ n * n
  to_row = row_end n t.to to_lt

  abbrev z : ℤ
  z = reduced n w t

  pub light : Within max_weight t.weight
  light = weights_within r.numbers.plain t among

  pub start_small : Within max_potential (point_of n w t.from)
  start_small = r.numbers.small t.from from_lt

  pub end_small : Within max_potential (point_of n w t.to)
  end_small = r.numbers.small t.to to_lt

  not_far : reduced n w t ⋖ pos far
  not_far = below t.weight (point_of n w t.from) (point_of n w t.to) light start_small end_small
    where
      below : (x a b : ℤ) → Within max_weight x → Within max_potential a → Within max_potential b → ((x +ℤ x) +ℤ a) -ℤ b ⋖ pos far
      below x a b c d f = simp ints (omega zs)

  -- it is no lower than what stands there
  pub line_stays : entry_in n w t.from t.to ⩽ reduced n w t → LinePut n L k w w
  line_stays l = record { put = put_none r; under = subst (λ (x : Step). entry_in n w x.from x.to ⩽ reduced n w x) e l }

  -- it is put there
  pub line_put : reduced n w t ⋖ entry_in n w t.from t.to → LinePut n L k w (set w (cell n t.from t.to) (reduced n w t))
  line_put l = record {
    put = record { scratch = changed; no_more = set_no_more n w table t.from t.to from_lt to_lt z (below _ _ l); ready = again };
    under = subst (λ (x : Step). entry_in n (set w (cell n t.from t.to) z) x.from x.to ⩽ reduced n w x) e (rw (set_entry n w t.from t.to from_lt to_lt z table) (le_refl _));
  }
    where
      table : n * n ≤ length w
      table = omega (arith, r.numbers.room)

      below : (x y : ℤ) → x ⋖ y → x ⩽ y
      below x y = simp ints (omega arith)

      changed : Scratch 0 (n * n) w (set w (cell n t.from t.to) z)
      changed = scratch_set 0 (n * n) w (cell n t.from t.to) z (omega arith) (cell_lt n t.from t.to from_lt to_lt)

      back : (v a b : ℤ) → (((v +ℤ v) +ℤ a) -ℤ b) +ℤ b ≡ (v +ℤ v) +ℤ a
      back v a b = simp ints (omega arith)

      entry : Entry (plain_of L) (point_of n w t.from) (point_of n w t.to) t.from t.to z
      entry = entry_step t among (back t.weight (point_of n w t.from) (point_of n w t.to)) (r.numbers.positive t among) not_far

      again : PutReady n L (set w (cell n t.from t.to) z)
      again = record {
        numbers = numbers_kept r.numbers changed;
        entries = λ i j hi hj.
            rw (point_kept n changed i, point_kept n changed j)
            (set_all n w t.from t.to from_lt to_lt z (λ a b x. Entry (plain_of L) (point_of n w a) (point_of n w b) a b x) table entry r.entries i j hi hj);
      }

-- ---- the loop over the lines, after the first k
pub record LinesPut (n : ℕ) (L w w' : List ℤ) (k : ℕ) : Type 0 where
  pub count : k ≤ line_count L
  pub put : Put n L w w'
  pub under : (j : ℕ) → j < k → UnderLine n L j w w'

pub lines_start : {n : ℕ} {L w : List ℤ} → PutReady n L w → LinesPut n L w w 0
lines_start r = record { count = omega arith; put = put_none r; under = λ j h. absurd (omega arith) }

pub lines_more : {n : ℕ} {L w w' w'' : List ℤ} {k : ℕ} → LinesPut n L w w' k → k < line_count L → LinePut n L k w' w'' → LinesPut n L w w'' (k + 1)
lines_more {n} {L} {w} {w'} {w''} {k} a h b = record { count = omega arith; put = put_trans a.put b.put; under = λ j l. each j l (ℕ_discrete j k) }
  where
    each : (j : ℕ) → j < k + 1 → Dec (j ≡ k) → UnderLine n L j w w''
    each j l (yes q) = subst (λ (x : ℕ). UnderLine n L x w w'') (sym q) (rw (point_kept n a.put.scratch (plain_step_lem (line_at L k)).from, point_kept n a.put.scratch (plain_step_lem (line_at L k)).to) at b.under)
    each j l (no q) =
        let i = ends_within a.put.ready.numbers.plain _ (step_among a.put.ready.numbers.plain j (omega (arith, l, h))) in
        le_trans (b.put.no_more _ _ i.0 i.1) (a.under j (omega (arith, l, q)))

-- ---- then the table is through no variable yet
pub through_lines : {n : ℕ} {L w w' : List ℤ} {k : ℕ} → LinesPut n L w w' k → line_count L ≤ k → Through (plain_of L) n (point_of n w) 0 (entry_in n w')
through_lines {n} {L} {w} {w'} a h = through_none (plain_of L) n (point_of n w) (entry_in n w') each
  where
    one : (x y a b v : ℤ) → x ⩽ ((v +ℤ v) +ℤ a) -ℤ b → x +ℤ b ⩽ ((v +ℤ pos 0) +ℤ (v +ℤ pos 0)) +ℤ a
    one x y a b v = simp ints (omega arith)

    each : (s : Step) → In s (plain_of L) → Under (plain_of L) n (point_of n w) s.from s.to (entry_in n w' s.from s.to) (s ∷ [])
    each s i =
        let k = plain_line L s i in
        let u = subst (λ (x : Step). entry_in n w' x.from x.to ⩽ reduced n w x) k.2 (a.under k.0 (omega (arith, k.1))) in
        one (entry_in n w' s.from s.to) (pos 0) (point_of n w s.from) (point_of n w s.to) s.weight u

-- ---- the start of it all: far, with 0 on the diagonal
module _ (E : List Step) (q : ℕ → ℤ) where
  zero_entry : (i : ℕ) → Entry E (q i) (q i) i i (pos 0)
  zero_entry i = record { low = simp ints (omega arith); high = simp ints (omega arith); reached = λ _. record { path = []; walk = walk_none i; sum = none (q i) } }
    where
      none : (a : ℤ) → pos 0 +ℤ a ≡ (pos 0 +ℤ pos 0) +ℤ a
      none a = simp ints (omega arith)

  pub first_entries : {n : ℕ} {w w' : List ℤ} → Diagonal n w w' n → Entries E q n w'
  first_entries {n} {w} {w'} d i j hi hj = go (ℕ_discrete i j)
    where
      go : Dec (i ≡ j) → Entry E (q i) (q j) i j (entry_in n w' i j)
      go (yes e) = subst (λ (x : ℕ). Entry E (q i) (q x) i x (entry_in n w' i x)) e (rw (d.zero i hi) (zero_entry i))
      go (no e) = rw (d.far_away i j hi hj e) (entry_far E (q i) (q j) i j)

pub filled_far : {n : ℕ} {w w' : List ℤ} → n ≤ max_variables → plain_end n ≤ length w → Filled 0 (n * n) (pos far) (n * n) w w' → DiagonalReady n w'
filled_far {n} few room f = record { few = few; room = omega (arith, room, f.scratch.same_length); far_away = λ i j hi hj. f.are (cell n i j) (omega arith) (cell_lt n i j hi hj) }

-- ---- all of it
-- single lines: entries of walks, 0 on the diagonal, and no more than the reduced weight of each line
pub record Started (n : ℕ) (L w w' : List ℤ) : Type 0 where
  pub scratch : Scratch 0 (n * n) w w'
  pub entries : Entries (plain_of L) (point_of n w) n w'
  pub diagonal : (i : ℕ) → i < n → entry_in n w' i i ⩽ pos 0
  pub through : Through (plain_of L) n (point_of n w) 0 (entry_in n w')

module _ {n : ℕ} {L w w₁ : List ℤ} (a : StartReady n L w) (f : Filled 0 (n * n) (pos far) (n * n) w w₁) where
  pub diagonal_ready : DiagonalReady n w₁
  diagonal_ready = filled_far a.plain.works.variables a.room f

  module _ {w₂ : List ℤ} (d : Diagonal n w₁ w₂ n) where
    since : Scratch 0 (n * n) w w₂
    since = scratch_trans f.scratch d.scratch

    same : (p : ℕ) → point_of n w₂ p ≡ point_of n w p
    same = point_kept n since

    pub put_ready : PutReady n L w₂
    put_ready = record { numbers = numbers_kept a since; entries = first_entries (plain_of L) (point_of n w₂) d }

    pub started : {w₃ : List ℤ} {k : ℕ} → LinesPut n L w₂ w₃ k → line_count L ≤ k → Started n L w w₃
    started {w₃} l h = record {
      scratch = scratch_trans since l.put.scratch;
      entries = λ i j hi hj. rw (sym (all i), sym (all j)) (l.put.ready.entries i j hi hj);
      diagonal = λ i hi. rw (d.zero i hi) at (l.put.no_more i i hi hi);
      through = λ i j hi hj s ss v m. rw (same i, same j) at (through_lines l h i j hi hj s ss v m);
    }
      where
        all : (p : ℕ) → point_of n w₃ p ≡ point_of n w p
        all p = point_kept n l.put.scratch p ∙ same p
