-- What is promised of refusals, and of what a call writes, holds. Assumes nothing.
use Prim.Native.Nat.{ℕ, zero, suc}
use mathlib.Core.Path.{◌≡◌, refl, ap, ◌∙◌}
use mathlib.Core.Bool.{Bool, true, false}
use mathlib.Core.List.{List, [], ◌∷◌, map, ◌++◌}
use lib.ListN.{length, drop, length-map}
use lib.Seq.{drop_at}
use lib.IntN.{ℤ, pos, ◌+ℤ◌}
use Rattle.rules.specs.Text.{Text}
use Rattle.rules.specs.Answer.{Answer, accepted, refused, refuse_if, and_then}
use Rattle.rules.specs.Assemble.{checks, pass_at_by, assemble, Place, Slices, short, room, assemble_answer, over, holding, write_list, assemble_slices}
use Rattle.rules.specs.Relocate.{far, outside, first_index, first_bad_mark, move_addresses, move_words, move_answer, move_by, move_slices}
use Rattle.rules.specs.Tally.{list_in, held}
use Rattle.promises.specs.Refusals.{SourceCondition, PassCondition, AssembleCondition, MoveCondition, checking, passing, assembling, moving, ChecksRefuseExactly, PassRefusesExactly, AssembleRefusesExactly, MoveRefusesExactly, RefusalChangesNothing, SamePast, AssembleWrites, MoveWrites, AcceptedWrites}
use Rattle.promises.proofs.Compared.{clash}
use Rattle.promises.proofs.Stages.{apart, are_apart, none_holds, refuses_exactly}
use Rattle.promises.proofs.Accepted.{not_refused, not_refused_at}
use Rattle.promises.proofs.RefusalsShort.{long_enough}
use Rattle.promises.proofs.RefusalsWritten.{moved_at, addresses_long, words_long}
use Rattle.promises.proofs.RefusalsAssemble as A
use Rattle.promises.proofs.RefusalsMove as M

pub checks_refuse_exactly : ChecksRefuseExactly
unfolding ChecksRefuseExactly apart
checks_refuse_exactly X s a =
    refuses_exactly (SourceCondition s) checking (are_apart checking refl) (A.source_known s) (checks s (accepted a)) (A.checks_answered X s a)

pub pass_refuses_exactly : PassRefusesExactly
unfolding PassRefusesExactly apart
pass_refuses_exactly z base s =
    refuses_exactly (PassCondition z base s) passing (are_apart passing refl) (A.pass_known z base s) (pass_at_by z base s) (A.pass_answered z base s)

pub assemble_refuses_exactly : AssembleRefusesExactly
unfolding AssembleRefusesExactly apart
assemble_refuses_exactly base s x =
    refuses_exactly (AssembleCondition base s x) assembling (are_apart assembling refl) (A.known base s x) (assemble_answer base s x) (A.answered base s x)

pub move_refuses_exactly : MoveRefusesExactly
unfolding MoveRefusesExactly apart
move_refuses_exactly x count d =
    refuses_exactly (MoveCondition x count d) moving (are_apart moving refl) (M.known x count d) (move_answer x count d) (M.answered x count d)

-- a refused call, whatever list it would write
pub unwritten : (r : Answer (List Place)) (x : Slices) (n p : ℕ) → and_then r (room x) ≡ refused n p → write_list r x ≡ x
unfolding and_then room write_list refuse_if
unwritten (refused m q) x n p e = refl
unwritten (accepted l) x n p e = go (short x (length l)) refl e
  where
    go : (y : Bool) → short x (length l) ≡ y → refuse_if y 7 (length l) (accepted (length l)) ≡ refused n p → write_list (accepted l) x ≡ x
    go true f g = rw (f, write_list)
    go false f g = clash cc

unmoved : (x : Slices) (count : ℕ) (d : ℤ) (n p : ℕ) → move_answer x count d ≡ refused n p → move_slices x count d ≡ x
unfolding move_slices move_by
unmoved x count d n p e = rw e

pub refusal_changes_nothing : RefusalChangesNothing
unfolding assemble_answer assemble_slices
refusal_changes_nothing = record { assembling = λ base s x n p e. unwritten (assemble base s) x n p e; moving = unmoved }

-- a list put over slices is held there, and nothing after it changes
held_over : (l : List Place) (xs ws ms : List ℕ)
    → list_in (length l) (map (λ p. p.address) l ++ xs) (map (λ p. p.word) l ++ ws) (map (λ p. p.mark) l ++ ms) ≡ l
unfolding list_in
held_over [] xs ws ms = refl
held_over (p ∷ l) xs ws ms = ap (λ r. p ∷ r) (held_over l xs ws ms)

past_over : (f : Place → ℕ) (l : List Place) (old : List ℕ) → drop (length l) (over (map f l) old) ≡ drop (length l) old
unfolding over
past_over f l old = drop_at (map f l) (drop (length (map f l)) old) (length l) (length-map l f) ∙ rw (length-map l f)

pub written : (l : List Place) (x : Slices) → (held (length l) (holding l x) ≡ l) × SamePast (length l) (holding l x) x
unfolding held holding over
written l x = (
  held_over l _ _ _,
  record {
    addresses = past_over (λ p. p.address) l x.addresses;
    words = past_over (λ p. p.word) l x.words;
    marks = past_over (λ p. p.mark) l x.marks;
  },
)

-- a move writes nothing after the moved places
module _ (d : ℤ) where
  past_addresses : (n : ℕ) (xs : List ℕ) → drop n (move_addresses d n xs) ≡ drop n xs
  unfolding move_addresses
  past_addresses zero xs = refl
  past_addresses (suc n) [] = refl
  past_addresses (suc n) (x ∷ xs) = past_addresses n xs

  past_words : (n : ℕ) (ms ws : List ℕ) → drop n (move_words d n ms ws) ≡ drop n ws
  unfolding move_words
  past_words zero ms ws = refl
  past_words (suc n) [] ws = refl
  past_words (suc n) (m ∷ ms) [] = refl
  past_words (suc n) (m ∷ ms) (w ∷ ws) = past_words n ms ws

-- an accepted call, whatever list it writes
pub record Wrote (r : Answer (List Place)) (n : ℕ) (x y : Slices) : Type 0 where
  pub list : List Place
  pub listed : r ≡ accepted list
  pub counted : n ≡ length list
  pub written : held n y ≡ list
  pub past : SamePast n y x

pub wrote : (r : Answer (List Place)) (x : Slices) (n : ℕ) → and_then r (room x) ≡ accepted n → Wrote r n x (write_list r x)
unfolding and_then room write_list refuse_if
wrote (refused m q) x n e = clash cc
wrote (accepted l) x n e = go (short x (length l)) refl e
  where
    go : (y : Bool) → short x (length l) ≡ y → refuse_if y 7 (length l) (accepted (length l)) ≡ accepted n → Wrote (accepted l) n x (write_list (accepted l) x)
    go true f g = clash cc
    go false f g =
        let k : n ≡ length l = cc in
        rw (f, write_list, k) (record { list = l; listed = refl; counted = refl; written = (written l x).0; past = (written l x).1 })

accepted_list : (base : ℕ) (s : Text) (x : Slices) (n : ℕ) → assemble_answer base s x ≡ accepted n → AssembleWrites base s n x (assemble_slices base s x)
unfolding assemble_answer assemble_slices apart
accepted_list base s x n e =
    let w = wrote (assemble base s) x n e in
    record {
      clear = none_holds (AssembleCondition base s x) assembling (are_apart assembling refl) (A.known base s x) n (assemble_answer base s x) e (A.answered base s x);
      list = w.list;
      listed = w.listed;
      counted = w.counted;
      written = w.written;
      past = w.past;
    }

-- an answer that no check refuses
accepted_move : (x : Slices) (count : ℕ) (d : ℤ) (n : ℕ) → move_answer x count d ≡ accepted n → MoveWrites count d n x (move_slices x count d)
unfolding move_answer move_slices move_by apart
accepted_move x count d n e =
    let k8 = not_refused (far d) 8 0 _ n e in
    let k9 = not_refused (short x count) 9 count _ n k8.1 in
    let k10 = not_refused_at (first_bad_mark 0 0 count x.marks) 10 _ n k9.1 in
    let k11 = not_refused_at (first_index (λ a. outside (pos a +ℤ d)) 0 count x.addresses) 11 (accepted count) n k10.1 in
    let same : count ≡ n = let f = k11.1 in cc in
    let long = long_enough x count k9.0 in
    rw (e, ← same)
    (record {
      clear = none_holds (MoveCondition x count d) moving (are_apart moving refl) (M.known x count d) n (move_answer x count d) e (M.answered x count d);
      counted = refl;
      moved = moved_at d count x long.0 long.1 long.2 k10.0 k11.0;
      past = record { addresses = past_addresses d count x.addresses; words = past_words d count x.marks x.words; marks = refl };
      kept = refl;
      addresses = addresses_long d count x.addresses;
      words = words_long d count x.marks x.words;
    })

pub accepted_writes : AcceptedWrites
accepted_writes = record { assembling = accepted_list; moving = accepted_move }
