-- Which step is next is as the plain numbers say. Assumes nothing.
use Prim.Native.Nat.{ℕ, ◌+◌, ◌%◌, ◌≤◌}
use mathlib.Core.Path.{◌≡◌, refl, sym, ◌∙◌}
use mathlib.Core.Bool.{Bool, true, false, cond, ◌&&◌}
use native.Mathlib.Omega.{arith}
use lib.Dec.{leb, eqb}
use lib.ListN.{get_or}
use borrow.Author.Tests.{leb-true, leb-false, eqb-true, eqb-false}
use Rattle.machine.specs.Form.{Valid, word_of}
use Rattle.machine.specs.Decode.{decode_of}
use Rattle.machine.specs.Machine.{State, word_at, reached, reaches, judged_as, judge_of}
use Rattle.machine.proofs.Inverse.{inverse, halts}
use Rattle.machine.specs.declared.Form.{Form}
use Rattle.machine.specs.declared.Form.TheVariants.{Nop, Moveq, MoveWord, Load, Store, Add, Sub, Cmp, Muls, MulsImmediate, Tst, Subq, Asl, Branch}
use Rattle.machine.specs.declared.Decoded.{Decoded}
use Rattle.machine.specs.declared.Decoded.TheVariants.{Is, Halt, Other}
use Rattle.machine.specs.declared.Judged.{Judged}
use Rattle.machine.specs.declared.Judged.TheVariants.{Runs, Halts, Unknown, Outside}
use Rattle.promises.proofs.Compared.{clash}
use Rattle.promises.proofs.Decided.{Decided, yes, no, decided_true, decided_false}
use Rattle.promises_bench.specs.BenchRuns.{WordWithin, LongWithin, ReachIsWithin, fetched, MayStep, AtHalt, AtOtherWord, AtBadAccess, bad_fetch, bad_reach, next_step, JudgesExactly}

-- the test for an access of so many bytes, up to the highest address that has room for them
within : (p size top : ℕ) → top + size ≡ 16384 → Decided ((p % 2 ≡ 0) × (p ≤ top)) (reached p size)
within p size top e = go (eqb (p % 2) 0) refl (leb (p + size) 16384) refl
  where
    go : (x : Bool) → eqb (p % 2) 0 ≡ x → (y : Bool) → leb (p + size) 16384 ≡ y → Decided ((p % 2 ≡ 0) × (p ≤ top)) (x && y)
    go true d true f = let k = leb-true (p + size) 16384 f in yes (eqb-true (p % 2) 0 d, omega arith)
    go true d false f = let k = leb-false (p + size) 16384 f in no (λ h. let u = h.1 in omega arith)
    go false d y f = no (λ h. eqb-false (p % 2) 0 d h.0)

word_within : (p : ℕ) → Decided (WordWithin p) (reached p 2)
word_within p = within p 2 16382 refl

long_within : (p : ℕ) → Decided (LongWithin p) (reached p 4)
long_within p = within p 4 16380 refl

reach_within : (f : Form) (s : State) → Decided (ReachIsWithin f s) (reaches f s.a s.pc)
unfolding reaches
reach_within Nop s = yes tt
reach_within (Moveq b m) s = yes tt
reach_within (MoveWord n m) s = yes tt
reach_within (Load n m) s = long_within (get_or s.a n 0)
reach_within (Store n m) s = long_within (get_or s.a m 0)
reach_within (Add n m) s = yes tt
reach_within (Sub n m) s = yes tt
reach_within (Cmp n m) s = yes tt
reach_within (Muls n m) s = yes tt
reach_within (MulsImmediate m) s = word_within (s.pc + 2)
reach_within (Tst n) s = yes tt
reach_within (Subq k n) s = yes tt
reach_within (Asl k n) s = yes tt
reach_within (Branch k b) s = yes tt

-- the word at the program counter
word_is : (s : State) → word_at s.mem s.pc ≡ fetched s
word_is s = omega arith

is_form : (s : State) (f : Form) → Valid f → word_of f ≡ fetched s → decode_of (word_at s.mem s.pc) ≡ Is f
is_form s f v e = (inverse (word_at s.mem s.pc) f).1 (v, e ∙ sym (word_is s))

is_halt : (s : State) → fetched s ≡ 0x4E72 → decode_of (word_at s.mem s.pc) ≡ Halt
is_halt s e = (halts (word_at s.mem s.pc)).1 (word_is s ∙ e)

-- what the next step is
data Next (s : State) : Judged → Type 0 where
  to_run : {f : Form} → MayStep s f → Next s (Runs f)
  to_halt : AtHalt s → Next s Halts
  to_other : AtOtherWord s → Next s Unknown
  to_bad : AtBadAccess s → Next s Outside

decoded : (s : State) → WordWithin s.pc → (o : Decoded) → decode_of (word_at s.mem s.pc) ≡ o → Next s (judged_as o s.a s.pc)
unfolding judged_as
decoded s w (Is f) e = go (reaches f s.a s.pc) (reach_within f s)
  where
    go : (x : Bool) → Decided (ReachIsWithin f s) x → Next s (cond x (Runs f) Outside)
    go true (yes r) = let v = (inverse (word_at s.mem s.pc) f).0 e in to_run (record { fetch = w; valid = v.0; word = v.1 ∙ word_is s; reach = r })
    go false (no n) = let v = (inverse (word_at s.mem s.pc) f).0 e in to_bad (bad_reach f w v.0 (v.1 ∙ word_is s) n)
decoded s w Halt e = to_halt (record { fetch = w; word = sym (word_is s) ∙ (halts (word_at s.mem s.pc)).0 e })
decoded s w Other e =
    to_other (record {
      fetch = w;
      no_halt = λ h. let k = is_halt s h in clash cc;
      no_form = λ f v h. let k = is_form s f v h in clash cc;
    })

next : (s : State) → Next s (next_step s)
unfolding judge_of
next s = go (reached s.pc 2) (word_within s.pc)
  where
    go : (x : Bool) → Decided (WordWithin s.pc) x → Next s (cond x (judged_as (decode_of (word_at s.mem s.pc)) s.a s.pc) Outside)
    go true (yes w) = decoded s w (decode_of (word_at s.mem s.pc)) refl
    go false (no n) = to_bad (bad_fetch n)

may_step : (s : State) (f : Form) → Next s (Runs f) → MayStep s f
may_step s f (to_run m) = m

at_halt : (s : State) → Next s Halts → AtHalt s
at_halt s (to_halt h) = h

at_other : (s : State) → Next s Unknown → AtOtherWord s
at_other s (to_other h) = h

at_bad : (s : State) → Next s Outside → AtBadAccess s
at_bad s (to_bad h) = h

-- and the other way round
is_unknown : (s : State) (j : Judged) → AtOtherWord s → Next s j → j ≡ Unknown
is_unknown s (Runs f) a (to_run m) = absurd (a.no_form f m.valid m.word)
is_unknown s Halts a (to_halt h) = absurd (a.no_halt h.word)
is_unknown s Unknown a (to_other h) = refl
is_unknown s Outside a (to_bad (bad_fetch n)) = absurd (n a.fetch)
is_unknown s Outside a (to_bad (bad_reach f w v e n)) = absurd (a.no_form f v e)

is_outside : (s : State) → AtBadAccess s → next_step s ≡ Outside
unfolding judge_of judged_as
is_outside s (bad_fetch n) = rw (decided_false (word_within s.pc) n)
is_outside s (bad_reach f w v e n) = rw (decided_true (word_within s.pc) w, is_form s f v e, decided_false (reach_within f s) n)

is_runs : (s : State) (f : Form) → MayStep s f → next_step s ≡ Runs f
unfolding judge_of judged_as
is_runs s f m = rw (decided_true (word_within s.pc) m.fetch, is_form s f m.valid m.word, decided_true (reach_within f s) m.reach)

is_halts : (s : State) → AtHalt s → next_step s ≡ Halts
unfolding judge_of judged_as
is_halts s h = rw (decided_true (word_within s.pc) h.fetch, is_halt s h.word)

pub judges_exactly : JudgesExactly
judges_exactly =
    record {
      runs = λ s f. ((λ e. may_step s f (rw e at (next s))), is_runs s f);
      halts = λ s. ((λ e. at_halt s (rw e at (next s))), is_halts s);
      unknown = λ s. ((λ e. at_other s (rw e at (next s))), (λ a. is_unknown s (next_step s) a (next s)));
      outside = λ s. ((λ e. at_bad s (rw e at (next s))), is_outside s);
    }
