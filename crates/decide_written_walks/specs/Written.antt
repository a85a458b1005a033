-- The step numbers of a walk that was found, written into the refutation.
use Rattle.std.specs.Prelude.{◌≡◌, refl, List, [], ◌∷◌, ◌++◌, map, ℕ, zero, suc, ◌+◌, ◌*◌, ◌-◌, ◌<◌, ◌≤◌, ℤ, pos, nat_abs, length, get_or, take, drop}
use Rattle.std.proofs.Common.{sym, ap, ap₂, ◌∙◌, arith, drop_at, drop-drop, get_or-drop}
use Rattle.std.proofs.lemmas.List.{length-map}
use Rattle.std.proofs.Math.ListN.{get_or-append}
use Rattle.lines.specs.Limits.{work_lines}
use Rattle.lines.specs.Line.{number, line_count, lines_of}
use Rattle.steps.specs.declared.Step.{Step}
use Rattle.steps.specs.Step.{steps_of}
use Rattle.steps.specs.Walk.{Path, total, Names}
use Rattle.steps.specs.Laws.{names_below}
use Rattle.decide_written_walks.specs.Copy.{StepNumbers, copied_to}
use Rattle.decide_written_walks.specs.Shortest.{walk_start, WalkReady, SumFound, WalkFound}

-- ---- numbers stored and read back
get_d_pos : (ks : List ℕ) (i : ℕ) → i < length ks → get_or (map pos ks) i (pos 0) ≡ pos (get_or ks i 0)
get_d_pos [] i h = absurd (omega arith)
get_d_pos (k ∷ ks) zero h = refl
get_d_pos (k ∷ ks) (suc i) h = get_d_pos ks i (omega arith)

back : (ks : List ℕ) (x : List ℤ) → take (length ks) (map nat_abs (map pos ks ++ x)) ≡ ks
back [] x = refl
back (k ∷ ks) x = ap (λ (l : List ℕ). k ∷ l) (back ks x)

-- ---- what is asked and promised
pub record WriteReady (n : ℕ) (L : List ℤ) (u v : ℕ) (R : List ℕ) (place : ℕ) (w : List ℤ) : Type 0 where
  pub ready : WalkReady n L u v w
  pub lines : line_count L ≤ work_lines
  pub room : place + 2 * n ≤ length R

-- r numbers from the place on name the steps of such a walk; all else in the refutation is as it was
pub record WalkWritten (n : ℕ) (L : List ℤ) (u v : ℕ) (R : List ℕ) (place : ℕ) (w : List ℤ) (R' : List ℕ) (w' : List ℤ) (r : ℕ) : Type 0 where
  pub few : r ≤ 2 * n
  pub numbers : List ℕ
  pub count : length numbers ≡ r
  pub is : R' ≡ (take place R ++ numbers) ++ drop (place + r) R
  pub same_length : length w' ≡ length w
  pub behind : drop (walk_start (2 * n) + 2 * n) w' ≡ drop (walk_start (2 * n) + 2 * n) w
  pub steps : List Step
  pub named : Names L numbers steps
  pub path : Path u steps v
  pub sum : SumFound (steps_of (lines_of L)) (2 * n) u v (total steps)

module _ (n : ℕ) (L : List ℤ) (u v : ℕ) (R : List ℕ) (place : ℕ) (w w' : List ℤ) (r : ℕ) (a : WriteReady n L u v R place w) (f : WalkFound n L u v w w' r) where
  abbrev end : ℕ
  end = walk_start (2 * n) + 2 * n

  fits : end ≤ length w
  fits = a.ready.room

  pub numbers_fit : end - r + r ≤ length w'
  numbers_fit = omega (arith, fits, f.same_length, f.few)

  pub numbers_small : StepNumbers w' (end - r) r
  numbers_small i h =
      let j : i < length f.numbers = omega (arith, f.count) in
      let e : number w' (end - r + i) ≡ pos (get_or f.numbers i 0) =
      sym (get_or-drop (end - r) w' i (pos 0)) ∙ ap (λ (l : List ℤ). get_or l i (pos 0)) f.stand
      ∙ get_or-append (map pos f.numbers) (drop end w) (pos 0) i (omega (arith, length-map f.numbers pos))
      ∙ get_d_pos f.numbers i j in
      (get_or f.numbers i 0, e, omega (arith, names_below L f.numbers f.steps f.named i j, a.lines))

  pub walk_written : (R' : List ℕ) → R' ≡ copied_to R place w' (end - r) r → WalkWritten n L u v R place w R' w' r
  walk_written R' e =
      record {
        few = f.few;
        numbers = f.numbers;
        count = f.count;
        is = e ∙ ap (λ (l : List ℕ). (take place R ++ l) ++ drop (place + r) R) copied;
        same_length = f.same_length;
        behind =
            ap (λ (j : ℕ). drop j w') split ∙ sym (drop-drop r (end - r) w') ∙ ap (drop r) f.stand
            ∙ drop_at (map pos f.numbers) (drop end w) r (length-map f.numbers pos ∙ f.count);
        steps = f.steps;
        named = f.named;
        path = f.path;
        sum = f.sum;
      }
    where
      split : end ≡ end - r + r
      split = omega (arith, f.few)

      copied : take r (map nat_abs (drop (end - r) w')) ≡ f.numbers
      copied = ap₂ (λ (j : ℕ) (l : List ℤ). take j (map nat_abs l)) (sym f.count) f.stand ∙ back f.numbers (drop end w)
