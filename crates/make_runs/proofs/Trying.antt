-- Values tried one after another in the same words, and what runs come to. Assumes nothing.
use Rattle.std.proofs.Common.{ℕ, zero, suc, ◌≡◌, ◌+◌, ◌-◌, ◌≤◌, Bool, true, false, cond, eqb, List, [], ◌∷◌, ◌++◌, map, length, refl, sym, ap, ◌∙◌, append_assoc, arith}
use Rattle.std.specs.Prelude.{Option, Some, None}
use Rattle.std.specs.List.{range_with_len}
use Rattle.std.proofs.lemmas.List.FromFn.{map-range_with_len_more}
use mathlib.Core.List.{append-nil, map-append}
use Rattle.rules.specs.Text.{Text}
use Rattle.rules.specs.Answer.{Answer, accepted, refused, refuse_if, refuse_at}
use Rattle.rules.specs.Relocate.{first_index}
use Rattle.machine.specs.Machine.{Run, ran_of}
use Rattle.machine.specs.Bench.{short_list, misplaced, bench_answer, bench_of, registers_after}
use Rattle.machine.specs.declared.Ran.{Ran}
use Rattle.stepper.specs.Stepper.{value_of, instead, ran_answer}
use Rattle.stepper.proofs.Checks.{runs}
use Rattle.benchtext.specs.BenchText.{run_line, with_value}
use Rattle.benchtext.proofs.Rows.{value_long}
use Rattle.serde_json.specs.Data.{Data}
use Rattle.jsontext.specs.Runs.{Tried, tried, run_data, Holds}
use Rattle.jsontext.specs.declared.runs.RunList.{RunList}
use Rattle.outcome.specs.Made.{made, refuses}
use Rattle.outcome.specs.declared.Which.TheVariants.{Input}
use Rattle.make_runs.specs.Runs.{run_at, run_with, runs_of, runs_told, rows_text}
use Rattle.make_runs.specs.declared.Running.{Running}
use Rattle.make_runs.specs.declared.Tries.{Tries}

second : (b : Bool) (v u w : ℕ) → cond b v (cond b u w) ≡ cond b v w
second true v u w = refl
second false v u w = refl

-- of two values the second stays
pub value_again : (n p v u : ℕ) (xs ws : List ℕ) → with_value n p v xs (with_value n p u xs ws) ≡ with_value n p v xs ws
unfolding with_value
value_again zero p v u xs ws = refl
value_again (suc n) p v u [] ws = refl
value_again (suc n) p v u (x ∷ xs) [] = refl
value_again (suc n) p v u (x ∷ xs) (w ∷ ws) = rw (second (eqb x p) v u w, value_again n p v u xs ws) refl

pub value_keeps : (n p v : ℕ) (xs ws new : List ℕ) → new ≡ with_value n p v xs ws → length new ≡ length ws
value_keeps n p v xs ws new e = ap length e ∙ value_long n p v xs ws

-- words of one length are refused alike
pub accepts_words : {A : Type 0} (n : ℕ) (xs ws ys : List ℕ) (r : A) → length ys ≡ length ws → bench_answer n xs ws r ≡ accepted r → bench_answer n xs ys r ≡ accepted r
unfolding bench_answer short_list
accepts_words n xs ws ys r e h = rw e h

-- ---- rows
rows_more : (ts : List Tried) (t : Tried) → rows_text (ts ++ t ∷ []) ≡ rows_text ts ++ run_line t.value (accepted t.run)
unfolding rows_text
rows_more [] t = append-nil (run_line t.value (accepted t.run))
rows_more (s ∷ ts) t = rw (rows_more ts t) (sym (append_assoc (run_line s.value (accepted s.run)) (rows_text ts) (run_line t.value (accepted t.run))))

-- the same of runs as JSON goes by
holds_same : (ts : List Tried) (x y : Tried) (s : RunList) → run_data x ≡ run_data y → Holds (ts ++ x ∷ []) s → Holds (ts ++ y ∷ []) s
unfolding Holds
holds_same ts x y s e h =
    let m : map run_data (ts ++ y ∷ []) ≡ map run_data (ts ++ x ∷ []) = map-append run_data ts (y ∷ []) ∙ ap (λ (d : Data). map run_data ts ++ d ∷ []) (sym e) ∙ sym (map-append run_data ts (x ∷ [])) in
    λ more. rw m (h more)

-- an answer past the refusals
past : {A : Type 0} (n m : ℕ) (xs ws : List ℕ) (r : A) → bench_answer n xs ws r ≡ instead r (bench_answer n xs ws m)
unfolding bench_answer refuse_if refuse_at
past n m xs ws r = go (short_list xs ws n) (first_index misplaced 0 n xs)
  where
    go : (b : Bool) (o : Option ℕ) → refuse_if b 9 n (refuse_at o 19 (accepted r)) ≡ instead r (refuse_if b 9 n (refuse_at o 19 (accepted m)))
    go true o = refl
    go false (Some i) = refl
    go false None = refl

-- ---- a list that is not refused
module _ (r : Running) (xs ws : List ℕ) (h : bench_answer (length xs) xs ws (length xs) ≡ accepted (length xs)) where
  abbrev answer : Answer Run
  answer = bench_of (length xs) xs ws r.a r.start r.limit

  runs_so : answer ≡ accepted (run_at r xs ws)
  runs_so = runs (length xs) xs ws r.a r.start r.limit (length xs) (sym h)

  pub row_added : (o : Option ℕ) (ts : List Tried) (old new line : Text) → old ≡ rows_text ts → line ≡ run_line o answer → new ≡ old ++ line → new ≡ rows_text (ts ++ tried o (run_at r xs ws) ∷ [])
  row_added o ts old new line e l n = n ∙ rw (rows_more ts (tried o (run_at r xs ws)), e, l, runs_so) refl

  ran_so : (ran : Ran) → accepted ran ≡ ran_answer answer → ran ≡ value_of (run_at r xs ws)
  ran_so ran e = let q : accepted ran ≡ ran_answer (accepted (run_at r xs ws)) = e ∙ ap ran_answer runs_so in cc

  pub run_added : (o : Option ℕ) (ts : List Tried) (ran : Ran) (d old : List ℕ) (s : RunList) → accepted ran ≡ ran_answer answer → d ≡ registers_after answer old → Holds (ts ++ tried o (ran_of d [] ran []) ∷ []) s
      → Holds (ts ++ tried o (run_at r xs ws) ∷ []) s
  unfolding run_data registers_after
  run_added o ts ran d old s e k g =
      let same : run_data (tried o (ran_of d [] ran [])) ≡ run_data (tried o (run_at r xs ws)) = rw (ran_so ran e, k, runs_so) refl in
      holds_same ts (tried o (ran_of d [] ran [])) (tried o (run_at r xs ws)) s same g

  pub none_refused : (n p : ℕ) → refused n p ≡ ran_answer answer → ⊥
  none_refused n p e = let q : refused n p ≡ ran_answer (accepted (run_at r xs ws)) = e ∙ ap ran_answer runs_so in cc

  pub told_runs : (f : List Tried → Text) → runs_told f r xs ws ≡ made (f (runs_of r r.tries xs ws))
  told_runs f = rw (past (length xs) (length xs) xs ws (runs_of r r.tries xs ws), h) refl

pub told_refused : (r : Running) (xs ws : List ℕ) (n p : ℕ) → refused n p ≡ bench_answer (length xs) xs ws (length xs) → (f : List Tried → Text) → runs_told f r xs ws ≡ refuses Input n p
told_refused r xs ws n p e f = rw (past (length xs) (length xs) xs ws (runs_of r r.tries xs ws), ← e) refl

-- ---- one value more
module _ (r : Running) (t : Tries) (xs ws : List ℕ) where
  pub tried_more : (P : List Tried → Type 0) (v : ℕ) (words new : List ℕ) → t.from ≤ v → with_value (length xs) t.address v xs words ≡ with_value (length xs) t.address v xs ws
      → new ≡ with_value (length xs) t.address v xs words → P (map (run_with r t xs ws) (range_with_len t.from (v - t.from)) ++ tried (Some v) (run_at r xs new) ∷ [])
      → P (map (run_with r t xs ws) (range_with_len t.from (v + 1 - t.from)))
  tried_more P v words new h s n p =
      let k : v + 1 - t.from ≡ v - t.from + 1 = omega arith in
      rw (k, map-range_with_len_more (run_with r t xs ws) t.from (v - t.from) v (omega arith), ← s, ← n) p
