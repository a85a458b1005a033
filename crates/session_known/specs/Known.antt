-- What is known of a session's lines, their table, model and groups, and what it becomes: with one line more, or made anew; whatever numbers it holds.
use Rattle.std.specs.Prelude.{◌≡◌, refl, Bool, true, false, cond, List, ◌++◌, ℕ, ◌<◌, ◌≤◌, ℤ, length}
use Rattle.std.proofs.Common.{ap, ◌∙◌, arith}
use Rattle.std.proofs.Math.ListN.{length-append}
use Rattle.lines.specs.Limits.{max_variables}
use Rattle.lines.specs.Line.{line_count, line_at}
use Rattle.lines.specs.Valid.{LinesOk}
use Rattle.decide_buffers.specs.Room.{model_room_lem, bounds_room_lem, groups_room_lem}
use Rattle.session_step.specs.Read.{SizedTable}
use Rattle.session_learn.specs.Learnt.{learns, learnt, learnt_size}
use Rattle.session_table.specs.Anew.{anew_table, anew_size}
use Rattle.session_kept.specs.Kept.{kept_after, keeps_model_lem, keeps_groups_lem}
use Rattle.session_kept.specs.Meaning.{after_length}
use Rattle.session_state.specs.State.{table_room_lem, known_room, table_of_known, kept_of_known}
use Rattle.session_state.specs.Laws.{length_table, length_kept}

-- ---- definitions
-- with line k, whose table is t: the model stays where it meets the line, and the groups where the line's steps are wide
abbrev pub known_with : ℕ → List ℤ → ℕ → List ℤ → List ℤ → List ℤ
known_with n L k q t = t ++ kept_after n (keeps_model_lem n (kept_of_known n q) (line_at L k)) (keeps_groups_lem n L k t) t (kept_of_known n q)

-- line k learnt, or all as it was
unfoldable pub known_after : ℕ → List ℤ → ℕ → List ℤ → List ℤ
known_after n L k q = cond (learns n L k (table_of_known n q)) (known_with n L k q (learnt n L k (table_of_known n q))) q

-- made anew from a list
unfoldable pub known_anew_lem : ℕ → List ℤ → List ℤ → List ℤ
known_anew_lem n L q = anew_table n L ++ kept_after n false false (anew_table n L) (kept_of_known n q)

-- what is asked: sizes alone
pub record Sized (n : ℕ) (q : List ℤ) : Type 0 where
  pub few : n ≤ max_variables
  pub size : length q ≡ known_room n

pub record LearnKnownReady (n : ℕ) (L : List ℤ) (k : ℕ) (q : List ℤ) : Type 0 where
  pub known : Sized n q
  pub valid : LinesOk n L
  pub line : k < line_count L

pub record GiveKnownReady (n : ℕ) (q model bounds : List ℤ) (groups : List ℕ) : Type 0 where
  pub known : Sized n q
  pub model_room : model_room_lem n ≤ length model
  pub bounds_room : bounds_room_lem n ≤ length bounds
  pub groups_room : groups_room_lem n ≤ length groups

-- ---- where the line is not learnt
pub after_no_line : (n : ℕ) (L : List ℤ) (k : ℕ) (q : List ℤ) → learns n L k (table_of_known n q) ≡ false → known_after n L k q ≡ q
unfolding known_after
after_no_line n L k q e = ap (λ (b : Bool). cond b (known_with n L k q (learnt n L k (table_of_known n q))) q) e

pub after_line : (n : ℕ) (L : List ℤ) (k : ℕ) (q : List ℤ) → learns n L k (table_of_known n q) ≡ true → known_after n L k q ≡ known_with n L k q (learnt n L k (table_of_known n q))
unfolding known_after
after_line n L k q e = ap (λ (b : Bool). cond b (known_with n L k q (learnt n L k (table_of_known n q))) q) e

-- ---- sizes
module _ (n : ℕ) (q : List ℤ) (sized : Sized n q) where
  pub table_sized : SizedTable n (table_of_known n q)
  table_sized = record { variables = sized.few; size = length_table n q sized.size }

  -- a table of its size, and model and groups renewed by it
  pub renewed_size : (model_stays groups_stay : Bool) (t : List ℤ) → length t ≡ table_room_lem n → length (t ++ kept_after n model_stays groups_stay t (kept_of_known n q)) ≡ known_room n
  unfolding known_room
  renewed_size model_stays groups_stay t size =
      length-append t (kept_after n model_stays groups_stay t (kept_of_known n q))
      ∙ omega (arith, size, after_length n model_stays groups_stay t (kept_of_known n q) (length_kept n q sized.size))

pub after_size : (n : ℕ) (L : List ℤ) (k : ℕ) (q : List ℤ) → Sized n q → length (known_after n L k q) ≡ known_room n
after_size n L k q sized = go (learns n L k t) refl
  where
    t : List ℤ
    t = table_of_known n q

    go : (b : Bool) → learns n L k (table_of_known n q) ≡ b → length (known_after n L k q) ≡ known_room n
    go true e = ap length (after_line n L k q e) ∙ renewed_size n q sized (keeps_model_lem n (kept_of_known n q) (line_at L k)) (keeps_groups_lem n L k (learnt n L k (table_of_known n q))) (learnt n L k (table_of_known n q))
        (learnt_size n L k (table_of_known n q) (table_sized n q sized))
    go false e = ap length (after_no_line n L k q e) ∙ sized.size

pub anew_known_size : (n : ℕ) (L q : List ℤ) → Sized n q → length (known_anew_lem n L q) ≡ known_room n
unfolding known_anew_lem
anew_known_size n L q sized = renewed_size n q sized false false (anew_table n L) (anew_size n L)
