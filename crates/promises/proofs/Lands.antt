-- Branches land, before and after moves, in the stations' lists and in those of the manual's call. Assumes nothing.
use Rattle.std.specs.Prelude.{Option, None, Some}
use Rattle.rules.specs.Option.{bind}
use Prim.Native.Nat.{ℕ, zero, suc, ◌+◌, ◌-◌, ◌*◌, ◌/◌, ◌%◌, ◌<◌}
use mathlib.Core.Path.{◌≡◌, refl, sym, ap, ◌∙◌}
use mathlib.Core.Logic.{◌≢◌}
use mathlib.Core.Bool.{Bool, true, false, cond}
use mathlib.Core.List.{List, [], ◌∷◌, ◌++◌, map}
use native.Mathlib.Omega.{arith}
use borrow.Author.Tests.{lt-ltb, le-ltb}
use lib.ListN.{length, take, drop}
use lib.IntN.{ℤ, pos, negsuc, ◌+ℤ◌, +ℤ_assoc, +ℤ_comm}
use Rattle.rules.specs.Text.{Text, bytes, same}
use Rattle.rules.specs.Line.{Instruction, end, instruction, line_of, size}
use Rattle.rules.specs.Label.{Table, find}
use Rattle.rules.specs.Encode.{Content, literal, data_register, two, one, branch, Mnemonic, branches, other_mnemonics, mnemonics, operation_in, one_or_more, displacement, branch_row, encode_operation, encode_by}
use Rattle.rules.specs.Forms.{kind_of, same_kind, text}
use Rattle.rules.specs.Answer.{accepted, and_then}
use Rattle.rules.specs.Assemble.{Sizes, Encoder, Pass, Place, place, code_contents_by, code_places_by, second_pass_by, pass_at_by, assemble_by}
use Rattle.rules.specs.Relocate.{moved_address, moved_word}
use Rattle.rules.specs.Tally.{moved_place, tally_list, tallied}
use Rattle.rules.proofs.Readings.{All as Has}
use Rattle.manual.specs.Manual.{InByte, InWord, byte, sixteen_bits, sign_by, sign_of, sign_of_word, Condition, T, CC, CS, NE, EQ, PL, MI, GE, LT, GT, LE, condition, extensions, manual_words}
use Rattle.manual.proofs.OperationWords.{operation_words}
use Rattle.requests.specs.ManualCall.{Branching, branch as branching, loop as looping, branched, Form, displaced as displaced_by, dbra, branch_on, heads, same_suffix, head_in, other_text, form_of, form, form_contents, manual_size, manual_encode}
use Rattle.promises.specs.Refusals.{IsLine, Reached}
use Rattle.promises.specs.Nearest.{FoundIsLast}
use Rattle.promises.specs.ListedForms.{D, label, marked_zero, words_before, words_after}
use Rattle.promises.specs.MovedLists.{last_total}
use Rattle.promises.specs.Lawful.{Lawful, RulesAreLawful}
use Rattle.promises.specs.ManualWritten.{InBranch, label as taken_label, branch_named}
use Rattle.promises.specs.Lands.{ByByte, by_byte, ByWord, by_word, Aims, LandsMoved, Landed, BranchesLand, BranchesLandBy, ManualBranchesLand, LoopsLand}
use Rattle.promises.proofs.Compared.{clash}
use Rattle.promises.proofs.Lists.{All}
use Rattle.promises.proofs.Fit.{listed}
use Rattle.promises.proofs.Twice.{Reached as Moved, inside_reached}
use Rattle.promises.proofs.Paired.{grouped_good}
use Rattle.promises.proofs.Moves.{last_total_inside, last_list_is}
use Rattle.promises.proofs.Records.{found_is_last}
use Rattle.promises.proofs.ManualLaws.{byte_modulo, bytes_read_back, displaced}
use Rattle.promises.proofs.ManualLines.{zero_places}
use Rattle.promises.proofs.ManualFields.{condition_fits}
use Rattle.promises.proofs.ManualLists.{cut, line_encoded}
use Rattle.promises.proofs.ManualOperands.{Numbered, is_d, Range, no_word_after, taken}
use Rattle.promises.proofs.ManualWords.{branch_head}
use Rattle.promises.proofs.ManualCall.{lawful}
use Rattle.promises.proofs.ManualMovedLists.{plain}
use Rattle.promises.proofs.MovedLists.{sixteen, low}
use Rattle.promises.proofs.Lawful.{rules_are_lawful}

-- ---- sums
-- the last two of three change places
swap : (x y z : ℤ) → (x +ℤ y) +ℤ z ≡ (x +ℤ z) +ℤ y
swap x y z = +ℤ_assoc x y z ∙ ap (λ (w : ℤ). x +ℤ w) (+ℤ_comm y z) ∙ sym (+ℤ_assoc x z y)

-- what leads from one address leads from one higher by d to where it led, d higher
leads_moved : (a b : ℕ) (z d : ℤ) → pos b ≡ pos a +ℤ d → pos (b + 2) +ℤ z ≡ (pos (a + 2) +ℤ z) +ℤ d
leads_moved a b z d e = ap (λ (w : ℤ). (w +ℤ pos 2) +ℤ z) e ∙ ap (λ (w : ℤ). w +ℤ z) (swap (pos a) d (pos 2)) ∙ swap (pos (a + 2)) d z

-- so words lead on as they did
abbrev Follows : (List ℕ → ℕ → ℤ → Type 0) → Type 0
Follows Leads = (ws : List ℕ) (a : ℕ) (t : ℤ) → Leads ws a t → (b : ℕ) (d : ℤ) → pos b ≡ pos a +ℤ d → Leads ws b (t +ℤ d)

byte_follows : Follows ByByte
byte_follows ws a t (by_byte {w} h k) b d e = by_byte h (leads_moved a b (sign_of (w % 256)) d e ∙ ap (λ (z : ℤ). z +ℤ d) k)

word_follows : Follows ByWord
word_follows ws a t (by_word {w} {v} h u k) b d e = by_word h u (leads_moved a b (sign_of_word v) d e ∙ ap (λ (z : ℤ). z +ℤ d) k)

-- ---- words of mark 0 in a moved list
-- from their place on
dropped : {A : Type 0} (xs ys : List A) → drop (length xs) (xs ++ ys) ≡ ys
dropped [] ys = refl
dropped (x ∷ xs) ys = dropped xs ys

drop_moved : (d : ℤ) (n : ℕ) (l : List Place) → drop n (tally_list d l) ≡ tally_list d (drop n l)
unfolding tally_list
drop_moved d zero l = refl
drop_moved d (suc n) [] = refl
drop_moved d (suc n) (p ∷ ps) = drop_moved d n ps

-- each has the address plus the distance, and its word
zeros_moved : (d : ℤ) (a b : ℕ) (ws : List ℕ) (l : List Place) → pos b ≡ pos a +ℤ d → take (length ws) (tally_list d (marked_zero a ws ++ l)) ≡ marked_zero b ws
unfolding tally_list marked_zero moved_place moved_address moved_word
zeros_moved d a b [] l e = refl
zeros_moved d a b (w ∷ ws) l e = rw (← e, zeros_moved d (a + 2) (b + 2) ws l (ap (λ (z : ℤ). z +ℤ pos 2) e ∙ swap (pos a) d (pos 2)))

there_moved : (d : ℤ) (a b : ℕ) (ws : List ℕ) (front back l : List Place) → l ≡ front ++ (marked_zero a ws ++ back) → pos b ≡ pos a +ℤ d
    → take (length ws) (drop (length front) (tally_list d l)) ≡ marked_zero b ws
there_moved d a b ws front back l e h =
    ap (λ (m : List Place). take (length ws) m) (drop_moved d (length front) l ∙ ap (λ (m : List Place). tally_list d (drop (length front) m)) e ∙ ap (tally_list d) (dropped front (marked_zero a ws ++ back)))
    ∙ zeros_moved d a b ws back h

-- what is true of all of a list is true of the first after its front
all_there : {A : Type 0} (P : A → Type 0) (xs : List A) (y : A) (ys l : List A) → l ≡ xs ++ (y ∷ ys) → All P l → P y
all_there P xs y ys l e h = go xs (rw e at h)
  where
    go : (zs : List _) → All P (zs ++ (y ∷ ys)) → P y
    go [] k = k.0
    go (x ∷ zs) k = go zs k.1

-- ---- a line of a lawful call, whose words are numbers
module _ {z : Sizes} {e : Encoder} {most : ℕ} (law : Lawful z e most) (base : ℕ) (s : Text) (p : Pass) (l : List Place)
    (passed : pass_at_by z base s ≡ accepted p) (made : assemble_by z e base s ≡ accepted l) where
  -- they stand in its place
  in_place : {j a : ℕ} {ns : List Text} (line : Text) (i : Instruction) → Reached z base s j a ns → IsLine s j line → (line_of line).task ≡ instruction i
      → (ws : List ℕ) → e p.labels a i ≡ Some (map literal ws) → l ≡ words_before e p j ++ (marked_zero a ws ++ words_after e p j)
  unfolding assemble_by and_then code_places_by code_contents_by
  in_place {j} {a} line i r is k ws w =
      let q : accepted (second_pass_by e p) ≡ accepted l = rw passed at made in
      let c : second_pass_by e p ≡ l = cc in
      let go_on : (line_of line).task ≢ end = λ u. let v = sym k ∙ u in clash cc in
      let places : code_places_by e p.labels (record { address = a; task = (line_of line).task }) ≡ marked_zero a ws = rw (k, w, zero_places a ws) in
      sym c ∙ cut z e base s p passed line r is go_on ∙ ap (λ (x : List Place). words_before e p j ++ (x ++ words_after e p j)) places

  -- and in every list that the tally reaches at the same places, from an address on that is its total higher
  module _ (Leads : List ℕ → ℕ → ℤ → Type 0) (follow : Follows Leads) (w : ℕ) (ws : List ℕ) {a t : ℕ} (lands : Leads (w ∷ ws) a (pos t)) where
    lands_moved : (front back : List Place) → l ≡ front ++ (marked_zero a (w ∷ ws) ++ back) → (ds : List ℤ)
        → LandsMoved Leads (w ∷ ws) (length front) a t l (tallied l (pos 0) ds)
    unfolding marked_zero
    lands_moved front back list ds =
        let k = listed law base s l made in
        let good = grouped_good k.grouped in
        let six = sixteen l k.fit in
        let total : ℤ = last_total (pos 0) (tallied l (pos 0) ds) in
        let up = inside_reached total l (last_total_inside l good six (low l k.fit) ds) in
        let here = all_there (Moved total) front (place a w 0) (marked_zero (a + 2) ws ++ back) l list up in
        record {
          address = moved_address total a;
          moved = here;
          stand =
              ap (λ (m : List Place). take (length (w ∷ ws)) (drop (length front) m)) (last_list_is l good six ds)
              ∙ there_moved total a (moved_address total a) (w ∷ ws) front back l list here;
          lands = follow (w ∷ ws) a (pos t) lands (moved_address total a) total here;
        }

    pub landed : {j : ℕ} {i : Instruction} {o : Text} {d : ℤ} → Aims z base s j a i o t d → e p.labels a i ≡ Some (map literal (w ∷ ws)) → Landed Leads e p j a t l
    landed {j} {i} m k =
        let list = in_place m.line i m.reached m.is m.asks (w ∷ ws) k in
        record { words = w ∷ ws; list = list; lands = lands; stays = lands_moved (words_before e p j) (words_after e p j) list }

-- ---- a branch word
branch_leads : (c a t : ℕ) (d : ℤ) → c < 16 → InByte d → pos (a + 2) +ℤ d ≡ pos t → ByByte ((0x6000 + 256 * c + byte d) ∷ []) a (pos t)
branch_leads c a t d small near leads =
    let k = bytes_read_back d near in
    let h : (0x6000 + 256 * c + byte d) / 4096 ≡ 6 = omega (arith, k.0) in
    let u : (0x6000 + 256 * c + byte d) % 256 ≡ byte d = omega (arith, k.0) in
    by_byte h (ap (λ (b : ℕ). pos (a + 2) +ℤ sign_of b) u ∙ ap (λ (z : ℤ). pos (a + 2) +ℤ z) k.1 ∙ leads)

-- ---- the stations' call
branch_encoded : (names : List Mnemonic) (ls : Table) (a : ℕ) (i : Instruction) (c : ℕ) (o : Text) (ps : List Text) (d : ℤ) → operation_in names i.mnemonic ≡ Some (branch c)
    → i.operands ≡ o ∷ ps → displacement ls a o ≡ Some d → InByte d → encode_by names ls a i ≡ Some (literal (0x6000 + 256 * c + byte d) ∷ [])
unfolding encode_by bind encode_operation one_or_more branch_row
branch_encoded names ls a i c o ps d e f g near = rw (e, f, g, byte_modulo d near)

pub branches_land_by : BranchesLandBy
unfolding BranchesLandBy FoundIsLast RulesAreLawful
branches_land_by names base s p l h f j a i o t d m q =
    let found = (found_is_last size base s p h o t).1 m.last in
    let d_is = displaced (label (record { target = t; found = found; leads = m.leads; near = q.near })) in
    landed (rules_are_lawful names) base s p l h f ByByte byte_follows _ [] (branch_leads q.condition a t d q.small q.near m.leads) m
    (branch_encoded names p.labels a i q.condition o q.others d q.named q.operands d_is q.near)

-- each of the eleven is one of the stations' mnemonics
record Known (c : Condition) : Type 0 where
  number : ℕ
  small : number < 16
  named : operation_in mnemonics (branch_named c) ≡ Some (branch number)

known : (c : Condition) → Known c
unfolding operation_in mnemonics other_mnemonics branches same bytes branch_named
known T = record { number = 0; small = omega arith; named = refl }
known CC = record { number = 4; small = omega arith; named = refl }
known CS = record { number = 5; small = omega arith; named = refl }
known NE = record { number = 6; small = omega arith; named = refl }
known EQ = record { number = 7; small = omega arith; named = refl }
known PL = record { number = 8; small = omega arith; named = refl }
known MI = record { number = 9; small = omega arith; named = refl }
known GE = record { number = 12; small = omega arith; named = refl }
known LT = record { number = 13; small = omega arith; named = refl }
known GT = record { number = 14; small = omega arith; named = refl }
known LE = record { number = 15; small = omega arith; named = refl }

pub branches_land : BranchesLand
unfolding BranchesLand BranchesLandBy
branches_land base s p l h f j a i o t d m q =
    let n = known q.condition in
    branches_land_by mnemonics base s p l h f j a i o t d m
    (record { condition = n.number; small = n.small; named = rw q.named n.named; others = q.others; operands = q.operands; near = q.near })

-- ---- the manual's call
-- the eleven have a head without a suffix alone
no_suffix : (c : Condition) (t : Text) → head_in heads (branch_named c) (Some t) ≡ None
unfolding head_in heads same same_suffix bytes branch_named
no_suffix T t = refl
no_suffix CC t = refl
no_suffix CS t = refl
no_suffix NE t = refl
no_suffix EQ t = refl
no_suffix PL t = refl
no_suffix MI t = refl
no_suffix GE t = refl
no_suffix LT t = refl
no_suffix GT t = refl
no_suffix LE t = refl

-- what form a line with an operand has, if it has one
with_branch : (c : Condition) (o : Text) (ps : List Text) → Has (λ g. g ≡ displaced_by (branching c) o) (form_of (branch_on c) (o ∷ ps))
unfolding form_of one other_text bind
with_branch c o [] = go (same_kind (kind_of o) text)
  where
    go : (x : Bool) → Has (λ g. g ≡ displaced_by (branching c) o) (bind (cond x (Some o) None) (λ l. Some (displaced_by (branching c) l)))
    go true = refl
    go false = tt
with_branch c o (q ∷ ps) = tt

branch_form : (c : Condition) (f : Option Text) (o : Text) (ps : List Text)
    → Has (λ g. g ≡ displaced_by (branching c) o) (bind (head_in heads (branch_named c) f) (λ h. form_of h (o ∷ ps)))
unfolding bind
branch_form c None o ps = rw (branch_head c) (with_branch c o ps)
branch_form c (Some t) o ps = rw (no_suffix c t) tt

abbrev IsLoop : Text → Form → Type 0
IsLoop o g = (n : ℕ) × (n < 8) × (g ≡ displaced_by (looping n) o)

with_loop : (r o : Text) (ps : List Text) → Has (IsLoop o) (form_of dbra (r ∷ o ∷ ps))
unfolding form_of two other_text bind
with_loop r o [] = go (data_register r) (is_d r) (same_kind (kind_of o) text)
  where
    go : (x : Option ℕ) → Has (Numbered D r) x → (y : Bool)
        → Has (IsLoop o) (bind x (λ n. bind (cond y (Some o) None) (λ l. Some (displaced_by (looping n) l))))
    go None h y = tt
    go (Some n) h true = (n, h.1, refl)
    go (Some n) h false = tt
with_loop r o (q ∷ ps) = tt

loop_form : (f : Option Text) (r o : Text) (ps : List Text) → Has (IsLoop o) (bind (head_in heads (bytes "DBRA") f) (λ h. form_of h (r ∷ o ∷ ps)))
unfolding bind head_in heads same same_suffix bytes
loop_form None r o ps = with_loop r o ps
loop_form (Some t) r o ps = tt

-- what has words has a form, and its words are the form's
by_form : (ls : Table) (a : ℕ) (P : Form → Type 0) (x : Option Form) {cs : List Content} → Has P x → bind x (form_contents ls a) ≡ Some cs
    → (g : Form) × P g × (bind x (form_contents ls a) ≡ form_contents ls a g)
unfolding bind
by_form ls a P None h e = clash cc
by_form ls a P (Some g) h e = (g, h, refl)

-- the words of a branch in range, and of DBRA
module _ (ls : Table) (a : ℕ) (o : Text) (t : ℕ) (d : ℤ) (found : find o ls ≡ Some t) (leads : pos (a + 2) +ℤ d ≡ pos t) where
  contents : (g : Branching) → Range g d → form_contents ls a (displaced_by g o) ≡ Some (map literal (manual_words (branched g d)))
  unfolding form_contents bind
  contents g near = rw (taken ls a g o d (taken_label (record { target = t; found = found; leads = leads }) near))

  branch_code : (i : Instruction) (c : Condition) (ps : List Text) {cs : List Content} → i.mnemonic ≡ branch_named c → i.operands ≡ o ∷ ps → InBranch d
      → manual_encode ls a i ≡ Some cs → manual_encode ls a i ≡ Some (literal (0x6000 + 256 * condition c + byte d) ∷ [])
  unfolding manual_encode form branched manual_words extensions
  branch_code i c ps e f near h =
      let k = by_form ls a (λ g. g ≡ displaced_by (branching c) o) (form i) (rw (e, f) (branch_form c i.suffix o ps)) h in
      let u : form_contents ls a k.0 ≡ Some (map literal (manual_words (branched (branching c) d))) = rw k.1 (contents (branching c) near) in
      k.2 ∙ u ∙ rw (no_word_after d near, operation_words.branch c d)

  loop_code : (i : Instruction) (r : Text) (ps : List Text) {cs : List Content} → i.mnemonic ≡ bytes "DBRA" → i.operands ≡ r ∷ o ∷ ps → InWord d
      → manual_encode ls a i ≡ Some cs → (n : ℕ) × (n < 8) × (manual_encode ls a i ≡ Some (literal (0x51C8 + n) ∷ literal (sixteen_bits d) ∷ []))
  unfolding manual_encode form branched manual_words extensions
  loop_code i r ps e f near h =
      let k = by_form ls a (IsLoop o) (form i) (rw (e, f) (loop_form i.suffix r o ps)) h in
      let n = k.1.0 in
      let u : form_contents ls a k.0 ≡ Some (map literal (manual_words (branched (looping n) d))) = rw k.1.2 (contents (looping n) near) in
      (n, k.1.1, k.2 ∙ u ∙ rw (operation_words.dbra n d))

-- a word's displacement is read back
word_read_back : (d : ℤ) → InWord d → (sixteen_bits d < 65536) × (sign_of_word (sixteen_bits d) ≡ d)
unfolding sixteen_bits sign_of_word sign_by
word_read_back (pos n) h = (omega arith, rw (lt-ltb n 32768 h))
word_read_back (negsuc n) h = (omega arith, rw (le-ltb (65535 - n) 32768 (omega arith), lt-ltb (65535 - n) 65536 (omega arith)) (ap negsuc (omega arith)))

loop_leads : (n a t : ℕ) (d : ℤ) → n < 8 → InWord d → pos (a + 2) +ℤ d ≡ pos t → ByWord ((0x51C8 + n) ∷ sixteen_bits d ∷ []) a (pos t)
loop_leads n a t d small near leads =
    let k = word_read_back d near in
    let h : (0x51C8 + n) / 8 ≡ 0x51C8 / 8 = omega arith in
    by_word h k.0 (ap (λ (z : ℤ). pos (a + 2) +ℤ z) k.1 ∙ leads)

pub manual_branches_land : ManualBranchesLand
unfolding ManualBranchesLand FoundIsLast
manual_branches_land base s p l h f j a i o t d m q =
    let found = (found_is_last manual_size base s p h o t).1 m.last in
    let has = line_encoded base s p l h f m.line i m.reached m.is m.asks in
    let near : InBranch d = q.near in
    landed lawful base s p l h (plain base s l f) ByByte byte_follows _ [] (branch_leads (condition q.condition) a t d (condition_fits q.condition) near.0 m.leads) m
    (branch_code p.labels a o t d found m.leads i q.condition q.others q.named q.operands near has.1)

pub loops_land : LoopsLand
unfolding LoopsLand FoundIsLast
loops_land base s p l h f j a i o t d m q =
    let found = (found_is_last manual_size base s p h o t).1 m.last in
    let has = line_encoded base s p l h f m.line i m.reached m.is m.asks in
    let k = loop_code p.labels a o t d found m.leads i q.first q.others q.named q.operands q.near has.1 in
    landed lawful base s p l h (plain base s l f) ByWord word_follows _ _ (loop_leads k.0 a t d k.1 q.near m.leads) m k.2
