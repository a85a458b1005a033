-- What is answered and left where a session learns the last line of a list, whatever its state holds: by what is known where the line is learnt, else by deciding.
use Rattle.lines.specs.declared.Refusal.{Refusal}
use Rattle.std.specs.Prelude.{◌≡◌, refl, Bool, true, false, List, ℕ, ◌+◌, ◌-◌, ◌<◌, ◌≤◌, ℤ, length, take, drop, Ok, Result}
use Rattle.std.proofs.Common.{sym, ap, subst, ◌∙◌, arith, length-take-le}
use Rattle.lines.specs.Limits.{max_variables}
use Rattle.lines.specs.Line.{line_count}
use Rattle.lines.specs.Valid.{LinesOk, Workable, workable}
use Rattle.decide_buffers.specs.Room.{Lent, model_room_lem, bounds_room_lem, groups_room_lem, work_room_lem, model_room, bounds_room, groups_room, work_room}
use Rattle.decide.specs.declared.Answer.{Answer}
use Rattle.decide.specs.declared.Answer.TheVariants.{Yes}
use Rattle.decide.specs.Decided.{validity_for, cleared, Decided, DecideOk, decide_ok}
use Rattle.session_learn.specs.Learnt.{learns}
use Rattle.session_kept.specs.Kept.{Given}
use Rattle.session_known.specs.Known.{known_after, Sized, after_size}
use Rattle.session_promise.specs.Promise.{learnt_answer, FromKnown, LearntLeft}
use Rattle.session_state.specs.State.{front_room, session_room_lem, table_in, known_in, table_of_known, kept_of_known, with_known}
use Rattle.session_state.specs.Laws.{room_is, length_known_in}
use Rattle.session_state.specs.Session.{known_is}

-- ---- a line learnt in a state
pub record LearnInReady (n : ℕ) (L : List ℤ) (k : ℕ) (s : List ℤ) : Type 0 where
  pub few : n ≤ max_variables
  pub valid : LinesOk n L
  pub line : k < line_count L
  pub room : session_room_lem n ≤ length s

-- ---- the outputs from what it knows
pub record YesReady (n : ℕ) (s model bounds : List ℤ) (groups : List ℕ) (work : List ℤ) : Type 0 where
  pub few : n ≤ max_variables
  pub room : session_room_lem n ≤ length s
  pub model_room : model_room_lem n ≤ length model
  pub bounds_room : bounds_room_lem n ≤ length bounds
  pub groups_room : groups_room_lem n ≤ length groups
  pub work_room : work_room_lem n ≤ length work

pub record YesWritten (n : ℕ) (s model bounds : List ℤ) (groups : List ℕ) (work model' bounds' : List ℤ) (groups' : List ℕ) (work' : List ℤ) : Type 0 where
  pub outputs : Given n (table_of_known n (known_in n s)) (kept_of_known n (known_in n s)) model bounds groups model' bounds' groups'
  pub emptied : work' ≡ cleared n work

-- ---- the answer
pub record AnswerReady (n : ℕ) (L : List ℤ) (k : ℕ) (s : List ℤ) (b : Lent) : Type 0 where
  pub valid : validity_for n L b ≡ Ok tt
  pub last : line_count L ≡ k + 1
  pub room : session_room_lem n ≤ length s

pub record Answers (n : ℕ) (L : List ℤ) (k : ℕ) (s : List ℤ) (x : Result Answer Refusal) (b : Lent) (t : List ℤ) (a : Lent) : Type 0 where
  pub is : x ≡ learnt_answer (learns n L k (table_in n s)) n L b
  pub state : t ≡ with_known n s (known_after n L k (known_in n s))
  pub left : LearntLeft (learns n L k (table_in n s)) n L (known_after n L k (known_in n s)) x b a

-- ---- for the code
module _ (n : ℕ) (L : List ℤ) (k : ℕ) (s : List ℤ) (b : Lent) (ready : AnswerReady n L k s b) where
  ok : DecideOk n L b
  ok = decide_ok n L b ready.valid

  works : Workable n L
  works = workable n L ok.list

  pub learn_ready : LearnInReady n L k s
  learn_ready = record { few = works.variables; valid = works.lines; line = omega (arith, ready.last); room = ready.room }

  -- what the state knows after it
  abbrev q : List ℤ
  q = known_in n s

  sized : Sized n (known_in n s)
  sized = record { few = works.variables; size = length_known_in n s ready.room }

  known_left : (s' : List ℤ) → s' ≡ with_known n s (known_after n L k (known_in n s)) → known_in n s' ≡ known_after n L k (known_in n s)
  known_left s' e =
      ap (known_in n) e
      ∙ known_is n (take front_room s) (known_after n L k q) (drop (session_room_lem n - front_room) (drop front_room s)) (length-take-le front_room s (omega (arith, ready.room, room_is n))) (after_size n L k q sized)

  -- ---- a yes
  pub yes_ready : (s' : List ℤ) → length s' ≡ length s → YesReady n s' b.model b.bounds b.groups b.work
  yes_ready s' same =
      record {
        few = works.variables;
        room = omega (arith, same, ready.room);
        model_room = model_room work_room_lem ok.rooms;
        bounds_room = bounds_room work_room_lem ok.rooms;
        groups_room = groups_room work_room_lem ok.rooms;
        work_room = work_room work_room_lem ok.rooms;
      }

  pub answers_yes : learns n L k (table_in n s) ≡ true → (s' : List ℤ) → s' ≡ with_known n s (known_after n L k (known_in n s)) → (m bs : List ℤ) (g : List ℕ) (w : List ℤ)
      → YesWritten n s' b.model b.bounds b.groups b.work m bs g w
      → Answers n L k s (Ok Yes) b s' (record { model = m; bounds = bs; groups = g; refutation = b.refutation; identifiers = b.identifiers; work = w })
  answers_yes e s' is m bs g w o =
      let a : Lent = record { model = m; bounds = bs; groups = g; refutation = b.refutation; identifiers = b.identifiers; work = w } in
      let from : FromKnown n (known_after n L k q) b a =
      record {
        outputs = subst (λ (x : List ℤ). Given n (table_of_known n x) (kept_of_known n x) b.model b.bounds b.groups m bs g) (known_left s' is) o.outputs;
        refutation = refl;
        identifiers = refl;
        work = o.emptied;
      } in
      record {
        is = sym (ap (λ (c : Bool). learnt_answer c n L b) e);
        state = is;
        left = subst (λ (c : Bool). LearntLeft c n L (known_after n L k q) (Ok Yes) b a) (sym e) from;
      }

  -- ---- else all is decided
  pub answers_decided : learns n L k (table_in n s) ≡ false → (s' : List ℤ) → s' ≡ with_known n s (known_after n L k (known_in n s)) → (x : Result Answer Refusal) (a : Lent) → Decided n L x b a → Answers n L k s x b s' a
  answers_decided e s' is x a d =
      record {
        is = d.is ∙ sym (ap (λ (c : Bool). learnt_answer c n L b) e);
        state = is;
        left = subst (λ (c : Bool). LearntLeft c n L (known_after n L k q) x b a) (sym e) d.leaves;
      }
