-- What the exported calls of a session return, and what they leave in the state and the buffers.
use Rattle.lines.specs.declared.Refusal.{Refusal}
use Rattle.std.specs.Prelude.{◌≡◌, List, ℕ, ℤ, pos, length, Err, Ok, Result}
use Rattle.lines.specs.declared.Line.{Line}
use Rattle.decide_buffers.specs.Room.{Lent}
use Rattle.session_promise.specs.Promise.{start_answer, start_state, learnt_known, add_answer, add_state, AddLeft, withdraw_answer, withdraw_state}
use Rattle.c_codes.specs.Codes.{refusal_code_lem}
use Rattle.c_deciding.specs.Calls.{decide_code_lem}

-- the number that a start or a withdrawal is returned as
abbrev pub done_code_lem : Result Unit Refusal → ℤ
done_code_lem (Ok _) = pos 0
done_code_lem (Err r) = refusal_code_lem r

-- s is what the state held before, t what it holds after
pub record StartReturns (n : ℕ) (s : List ℤ) (returned : ℤ) (t : List ℤ) : Type 0 where
  pub is : returned ≡ done_code_lem (start_answer n (length s))
  pub state : t ≡ start_state n s (start_answer n (length s))

-- and b what the buffers held before, a what they hold after
pub record AddReturns (s : List ℤ) (l : Line) (returned : ℤ) (b : Lent) (t : List ℤ) (a : Lent) : Type 0 where
  pub is : returned ≡ decide_code_lem (add_answer s l b)
  pub state : t ≡ add_state s l (learnt_known s l) (add_answer s l b)
  pub left : AddLeft (add_answer s l b) s l b a

pub record WithdrawReturns (s : List ℤ) (returned : ℤ) (t : List ℤ) : Type 0 where
  pub is : returned ≡ done_code_lem (withdraw_answer s)
  pub state : t ≡ withdraw_state s (withdraw_answer s)
