-- Which line asks what: the lines that an accepted pass reads, and END after them. Assumes nothing.
use Rattle.std.specs.Prelude.{Option, Some, slice_get}
use Prim.Native.Nat.{ℕ, zero, suc, ◌+◌, ◌≤◌, ◌<◌}
use mathlib.Core.Path.{◌≡◌, refl, ap}
use mathlib.Core.List.{List, [], ◌∷◌, ◌++◌}
use native.Mathlib.Omega.{arith}
use lib.ListN.{length, get_or}
use Rattle.rules.specs.Limits.{max_lines, address_limit}
use Rattle.rules.specs.Text.{Text, cut_at}
use Rattle.rules.specs.Number.{Failure, Reading, failed}
use Rattle.rules.specs.Line.{SourceLine, numbered, lines_of, Task, end, line_of, size}
use Rattle.rules.specs.Directive.{line_reading}
use Rattle.rules.specs.Label.{Table, find}
use Rattle.rules.specs.Encode.{Content, literal, address, long_address, Mnemonic, encode_by}
use Rattle.rules.specs.Answer.{accepted}
use Rattle.rules.specs.Assemble.{Put, Pass, Place, address_after, putting, first_pass_by, pass_at, places_at, data_contents, data_places, code_contents_by, code_places_by}
use Rattle.requests.specs.Explain.{Reason, Verdict, emitted, because, why_task}
use Rattle.promises.specs.Readings.{Passes, org_read, org_failed, value_read, value_failed, no_value, not_read, ends, only_labelled, instructs, LinesPassOn}
use Rattle.promises.proofs.Compared.{clash}
use Rattle.promises.proofs.Directives.{lines_pass_on}
use Rattle.promises.proofs.Fit.{Holds, holds_then}
use Rattle.promises.proofs.LineVerdicts.{contents, Told, worded, reasoned, task_told}
use Rattle.promises.proofs.Tasks.{pass_line}
use Rattle.first.proofs.Bounds.{LowPut, InLimits, within, low}
use Rattle.printout.specs.Printout.{places_of_put}
use Rattle.printout.proofs.Bare.{end_at}

-- ---- lines, and what they ask
pub data Asks : List Put → List SourceLine → Type 0 where
  over : Asks [] []
  stops : {l : SourceLine} {ls : List SourceLine} → (line_of l.text).task ≡ end → Asks [] (l ∷ ls)
  goes : {u : Put} {us : List Put} {l : SourceLine} {ls : List SourceLine} → u.task ≡ (line_of l.text).task → Asks us ls → Asks (u ∷ us) (l ∷ ls)

asked : (base a : ℕ) (t : Table) (ls : List SourceLine) → Holds (λ (p : Pass). Asks p.puts ls) (first_pass_by size base a t ls)
unfolding first_pass_by putting
asked base a t [] = over
asked base a t (l ∷ ls) =
    pass_line size base a t l ls (Holds (λ (p : Pass). Asks p.puts (l ∷ ls)))
    (λ k. stops k) (λ k o. tt) (λ t' k o v. tt)
    (λ t' k o v. holds_then (λ (p : Pass). Asks p.puts ls) (λ (p : Pass). Asks p.puts (l ∷ ls)) (first_pass_by size base _ t' ls) (putting a task) (asked base (address_after size base a (line_of l.text).task) t' ls)
    (λ p h. goes refl h))
  where
    task : Task
    task = (line_of l.text).task

pub asks_at : (us : List Put) (ls : List SourceLine) (k : ℕ) (u : Put) (l : SourceLine) → Asks us ls → slice_get us k ≡ Some u → slice_get ls k ≡ Some l → u.task ≡ (line_of l.text).task
asks_at _ _ k u l over e f = clash cc
asks_at _ _ k u l (stops h) e f = clash cc
asks_at _ _ zero u l (goes {u = v} {l = m} q h) e f = let x : v ≡ u = cc in let y : m ≡ l = cc in rw (x, y) at q
asks_at _ _ (suc k) u l (goes q h) e f = asks_at _ _ k u l h e f

pub asks_end : (us : List Put) (ls : List SourceLine) (k : ℕ) (l : SourceLine) → Asks us ls → length us ≡ k → slice_get ls k ≡ Some l → (line_of l.text).task ≡ end
asks_end _ _ k l over e f = clash cc
asks_end _ _ zero l (stops {l = m} h) e f = let y : m ≡ l = cc in rw y at h
asks_end _ _ (suc k) l (stops h) e f = absurd (omega arith)
asks_end _ _ zero l (goes q h) e f = absurd (omega arith)
asks_end _ _ (suc k) l (goes q h) e f = asks_end _ _ k l h (omega arith) f

-- ---- line k of a source
pub record LineIs (n k : ℕ) (ls : List SourceLine) (x : Text) : Type 0 where
  pub start : ℕ
  pub at : slice_get ls k ≡ Some (record { number = n + k; start = start; text = x })

pub line_is : (n i : ℕ) (ts : List Text) (k : ℕ) (x : Text) → slice_get ts k ≡ Some x → LineIs n k (numbered n i ts) x
unfolding numbered
line_is n i [] k x e = clash cc
line_is n i (y ∷ ts) zero x e = let q : y ≡ x = cc in let z : n + 0 ≡ n = omega arith in record { start = i; at = rw (q, z) }
line_is n i (y ∷ ts) (suc k) x e =
    let r = line_is (suc n) (suc (i + length y)) ts k x e in
    let z : n + suc k ≡ suc n + k = omega arith in
    record { start = r.start; at = rw z r.at }

-- ---- an accepted pass
module _ (base : ℕ) (s : Text) (p : Pass) (e : pass_at base s ≡ accepted p) where
  limits : InLimits size base s p
  limits = within size base s p e

  pub pass_asks : Asks p.puts (lines_of s)
  pass_asks = rw limits.passed at (asked base base [] (lines_of s))

  pub few_lines : length (cut_at 10 s) ≤ max_lines
  few_lines = limits.few

  pub put_low : (k : ℕ) (u : Put) → slice_get p.puts k ≡ Some u → LowPut size base u
  put_low k u f = go p.puts k f (λ j d h. (low size base s p e).puts j d h)
    where
      go : (us : List Put) (k : ℕ) → slice_get us k ≡ Some u → ((j : ℕ) (d : Put) → j < length us → LowPut size base (get_or us j d)) → LowPut size base u
      go [] k f h = clash cc
      go (v ∷ us) zero f h = let x : v ≡ u = cc in rw x at (h 0 u (omega arith))
      go (v ∷ us) (suc k) f h = go us k f (λ j d l. h (suc j) d (omega arith))

-- END's address
pub end_last : (base a : ℕ) (us : List Put) (j : ℕ) (u : Put) → length us ≡ suc j → slice_get us j ≡ Some u → end_at base a us ≡ address_after size base u.address u.task
unfolding end_at
end_last base a [] j u e f = clash cc
end_last base a (v ∷ []) zero u e f = let x : v ≡ u = cc in rw x
end_last base a (v ∷ w ∷ us) zero u e f = absurd (omega arith)
end_last base a (v ∷ us) (suc j) u e f = end_last base (address_after size base v.address v.task) us j u (omega arith) f

end_below : (base a : ℕ) (us : List Put) → a < address_limit → ((j : ℕ) (u : Put) → slice_get us j ≡ Some u → address_after size base u.address u.task < address_limit) → end_at base a us < address_limit
unfolding end_at
end_below base a [] h f = h
end_below base a (u ∷ us) h f = end_below base (address_after size base u.address u.task) us (f 0 u refl) (λ j v e. f (suc j) v e)

pub end_low : (base : ℕ) (s : Text) (p : Pass) → pass_at base s ≡ accepted p → end_at base base p.puts < address_limit
end_low base s p e = end_below base base p.puts (limits base s p e).low (λ j u f. (put_low base s p e j u f).after)

-- ---- what a verdict says of the places
first_place : (a : ℕ) (c : Content) (cs : List Content) → (p : Place) × (ps : List Place) × (places_at a (c ∷ cs) ≡ p ∷ ps)
unfolding places_at
first_place a (literal w) cs = (_, _, refl)
first_place a (address x) cs = (_, _, refl)
first_place a (long_address x) cs = (_, _, refl)

some_places : (a : ℕ) (d e : List Content) (c : Content) (cs : List Content) → d ++ e ≡ c ∷ cs → (p : Place) × (ps : List Place) × (places_at a d ++ places_at a e ≡ p ∷ ps)
unfolding places_at
some_places a [] e c cs f = let r = first_place a c cs in (r.0, r.1, rw f r.2)
some_places a (x ∷ d) e c cs f = let r = first_place a x d in (r.0, r.1 ++ places_at a e, ap (λ (l : List Place). l ++ places_at a e) r.2)

no_places : (a : ℕ) (d e : List Content) → d ++ e ≡ [] → places_at a d ++ places_at a e ≡ []
unfolding places_at
no_places a [] [] f = refl
no_places a [] (x ∷ e) f = clash cc
no_places a (x ∷ d) e f = clash cc

module _ (names : List Mnemonic) (t : Table) (u : Put) where
  abbrev At : Text → ℕ → Type 0
  At l x = find l t ≡ Some x

  told : Told names t At u.address u.task (why_task names t u.address u.task)
  told = task_told names t u.address At (λ l x e. e) (λ l x e. e) u.task

  pub emitted_places : why_task names t u.address u.task ≡ emitted → (p : Place) × (ps : List Place) × (places_of_put names t u ≡ p ∷ ps)
  unfolding places_of_put data_places code_places_by contents
  emitted_places e = go (why_task names t u.address u.task) told e
    where
      go : (v : Verdict) → Told names t At u.address u.task v → v ≡ emitted → (p : Place) × (ps : List Place) × (places_of_put names t u ≡ p ∷ ps)
      go _ (worded {c} {cs} f) q = some_places u.address (data_contents u.task) (code_contents_by (encode_by names) t u.address u.task) c cs f
      go _ (reasoned f h b) q = clash cc

  pub reason_places : (r : Reason) → why_task names t u.address u.task ≡ because r → places_of_put names t u ≡ []
  unfolding places_of_put data_places code_places_by contents
  reason_places r e = go (why_task names t u.address u.task) told e
    where
      go : (v : Verdict) → Told names t At u.address u.task v → v ≡ because r → places_of_put names t u ≡ []
      go _ (worded f) q = clash cc
      go _ (reasoned f h b) q = no_places u.address (data_contents u.task) (code_contents_by (encode_by names) t u.address u.task) f

  -- a directive whose number fails has none
  pub failed_places : (l : Text) (f : Failure) → u.task ≡ (line_of l).task → line_reading l ≡ Some (failed f) → places_of_put names t u ≡ []
  unfolding places_of_put data_places data_contents places_at code_places_by code_contents_by LinesPassOn
  failed_places l f e q = go u.task (line_reading l) (rw (← e) at (lines_pass_on l)) q
    where
      go : (k : Task) (o : Option (Reading ℕ)) → Passes k o → o ≡ Some (failed f) → places_of_put names t (record { address = u.address; task = k }) ≡ []
      go _ _ org_read g = clash cc
      go _ _ org_failed g = refl
      go _ _ value_read g = clash cc
      go _ _ value_failed g = refl
      go _ _ no_value g = clash cc
      go _ _ not_read g = clash cc
      go _ _ ends g = clash cc
      go _ _ only_labelled g = clash cc
      go _ _ instructs g = clash cc
