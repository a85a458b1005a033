-- The three ways out of writing a list, each with what it answers and leaves.
use Rattle.file_records.specs.declared.FileRefusal.{FileRefusal}
use Rattle.std.specs.Prelude.{◌≡◌, Bool, true, false, cond, List, ◌++◌, ℕ, ◌<◌, ◌≤◌, ltb, ℤ, length, drop, Err, Ok, Result}
use Rattle.std.proofs.Math.Path.{sym, ap}
use Rattle.std.proofs.Common.{subst, ◌∙◌, lt-ltb, le-ltb}
use Rattle.lines.specs.declared.Refusal.{Refusal as ListRefusal, Refusal}
use Rattle.lines.specs.Refusal.{validity_of}
use Rattle.little_endian.specs.Writing.{put}
use Rattle.file_records.specs.declared.FileRefusal.TheVariants.{NoRoom, List as OfList}
use Rattle.file_list.specs.File.{file_size_lem, file_of}
use Rattle.file_list.specs.Write.{unless_refused, write_answer, WriteDone}
use Rattle.file_list.specs.Putting.{file_before}

module _ (n : ℕ) (L : List ℤ) (b a : List ℕ) where
  abbrev size : ℕ
  size = file_size_lem L

  abbrev by_size : Bool → Result ℕ FileRefusal
  by_size t = cond t (Err (NoRoom 0)) (Ok size)

  -- the list's refusals
  pub list_refused : (r : ListRefusal) → validity_of n L ≡ Err r → a ≡ b → WriteDone n L (Err (OfList r)) b a
  unfolding write_answer
  list_refused r e h = record { is = sym (ap (λ (v : Result Unit Refusal). unless_refused v (by_size (ltb (length b) size))) e); leaves = h }

  answer_valid : (t : Bool) → validity_of n L ≡ Ok tt → ltb (length b) size ≡ t → by_size t ≡ write_answer n L (length b)
  unfolding write_answer
  answer_valid t e f = sym (ap (λ (v : Result Unit Refusal). unless_refused v (by_size (ltb (length b) size))) e ∙ ap by_size f)

  -- 25
  pub no_room : validity_of n L ≡ Ok tt → length b < size → a ≡ b → WriteDone n L (Err (NoRoom 0)) b a
  no_room e l h = record { is = answer_valid true e (lt-ltb _ _ l); leaves = h }

  pub all_written : (k : ℕ) → k ≡ size → validity_of n L ≡ Ok tt → k ≤ length b → a ≡ put b 0 (file_of n L) → WriteDone n L (Ok k) b a
  all_written k s e l h =
      let m : size ≤ length b = subst (λ (j : ℕ). j ≤ length b) s l in
      record {
        is = ap Ok s ∙ answer_valid false e (le-ltb _ _ m);
        leaves = h ∙ file_before n L b m ∙ ap (λ (j : ℕ). file_of n L ++ drop j b) (sym s);
      }
