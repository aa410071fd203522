-- The list is the places of its lines, and a branch's word is its own line's. Assumes nothing.
use Rattle.std.specs.Prelude.{Some, slice_get}
use Prim.Native.Nat.{ℕ, zero, suc, ◌+◌, ◌<◌}
use mathlib.Core.Path.{◌≡◌, refl, sym, ap, ◌∙◌}
use mathlib.Core.Logic.{◌≢◌}
use mathlib.Core.Bool.{Bool, true, false}
use mathlib.Core.List.{List, [], ◌∷◌, ◌++◌, map, flat_map}
use native.Mathlib.Omega.{arith}
use lib.ListN.{length, take, drop, length-append}
use lib.IntN.{ℤ, pos, ◌+ℤ◌, +ℤ_assoc, +ℤ_comm}
use Rattle.rules.specs.Text.{Text, cut_at}
use Rattle.rules.specs.Line.{lines_of, Task, skipped, end, org, no_org, label_only, Instruction, instruction, value, space, line_of, size}
use Rattle.rules.specs.Label.{find}
use Rattle.rules.specs.Encode.{Content, literal, address, long_address, Mnemonic, mnemonics, other_mnemonics, encode_by}
use Rattle.rules.specs.Answer.{Answer, accepted, refused, and_then}
use Rattle.rules.specs.Assemble.{Put, Pass, Sizes, Encoder, Place, place, places_at, data_contents, code_contents_by, words_by, data_places, code_places_by, second_pass_by, first_pass_by, pass_at_by, pass_at, is_end, assemble_by}
use Rattle.rules.specs.Relocate.{moved_address, moved_word}
use Rattle.rules.specs.Tally.{moved_place, tally_list, tallied}
use Rattle.requests.specs.Explain.{Verdict, emitted, because, why_task, explain_by}
use Rattle.requests.specs.ManualCall.{manual_size, manual_encode}
use Rattle.requests.specs.ManualAssemble.{assemble_manual}
use Rattle.promises.specs.Refusals.{IsLine, Reached, start, further}
use Rattle.promises.specs.ListedForms.{marked_zero, words_before, words_after}
use Rattle.promises.specs.Nearest.{FoundIsLast}
use Rattle.promises.specs.Explain.{RecordedAt, Right, words, reason, ExplainsExactly}
use Rattle.promises.specs.Lawful.{RulesAreLawful}
use Rattle.promises.specs.MovedLists.{last_total}
use Rattle.promises.specs.Lands.{Landed, LandsMoved, BranchesLand, BranchesLandBy, ManualBranchesLand, LoopsLand}
use Rattle.promises.specs.BranchCalls.{ListsUnder, BranchesLandUnder}
use Rattle.promises.proofs.Compared.{clash}
use Rattle.promises.proofs.Accepted.{not_refused, checks_passed}
use Rattle.promises.proofs.Tasks.{is_end_lem, not_end}
use Rattle.promises.proofs.RefusalsLines.{line_at}
use Rattle.promises.proofs.Asked.{asked, put_at_lem, ended, over}
use Rattle.promises.proofs.Records.{found_is_last}
use Rattle.promises.proofs.LineVerdicts.{contents, Told, worded, reasoned, task_told}
use Rattle.promises.proofs.LineWords.{line_puts, line_silent}
use Rattle.promises.proofs.Explain.{explains_exactly}
use Rattle.promises.proofs.Lawful.{rules_are_lawful}
use Rattle.promises.proofs.ManualLists.{cut, line_encoded}
use Rattle.promises.proofs.ManualCall.{size_is_length}
use Rattle.promises.proofs.ManualMovedLists.{plain}
use Rattle.promises.proofs.Lands.{branches_land, branches_land_by, manual_branches_land, loops_land}
use Rattle.promises.proofs.BranchCalls.{lists_under}
use Rattle.promises.proofs.BranchLands.{branches_land_under}
use Rattle.promises.proofs.Lists.{All}
use Rattle.promises.proofs.Fit.{listed}
use Rattle.promises.proofs.Twice.{Reached as Moved, inside_reached}
use Rattle.promises.proofs.Paired.{grouped_good}
use Rattle.promises.proofs.Moves.{last_total_inside, last_list_is}
use Rattle.promises.proofs.MovedLists.{sixteen, low}
use Rattle.promises_calls.specs.BranchWords.{Worded, BranchesSay, BranchesSayBy, BranchesSayUnder}
use Rattle.promises_calls.proofs.BranchWords.{branches_say, branches_say_by, branches_say_under}
use Rattle.promises_calls.specs.Landing.{OneSays, one_says, SayingBranchesStand, SayingBranchesStandBy, SayingBranchesStandUnder, BranchesStandBy, Consecutive, no_place, next_place, DataPlaces, two_words, without_value, CodePlaces, its_words, no_instruction, LinePlaces, past_all, ends_here, a_line, together, MakesBy, makes_words, makes_none, MakesSize, makes_size, StandsInTurn, BranchesStand, BranchesStandUnder, ManualBranchesStand, LoopsStand}

-- ---- lists
module _ {A : Type 0} where
  same_front : (xs : List A) {ys zs : List A} → xs ++ ys ≡ xs ++ zs → ys ≡ zs
  same_front [] e = e
  same_front (x ∷ xs) {ys} {zs} e = same_front xs (let u : xs ++ ys ≡ xs ++ zs = cc in u)

  same_back : (ys zs ws : List A) → ys ++ ws ≡ zs ++ ws → ys ≡ zs
  same_back [] [] ws e = refl
  same_back [] (z ∷ zs) ws e = let u : length ws ≡ length ((z ∷ zs) ++ ws) = ap length e in absurd (omega (arith, length-append (z ∷ zs) ws))
  same_back (y ∷ ys) [] ws e = let u : length ((y ∷ ys) ++ ws) ≡ length ws = ap length e in absurd (omega (arith, length-append (y ∷ ys) ws))
  same_back (y ∷ ys) (z ∷ zs) ws e =
      let u : ys ++ ws ≡ zs ++ ws = cc in
      let v : y ≡ z = cc in
      let k : ys ≡ zs = same_back ys zs ws u in
      cc

take_map : {A B : Type 0} (f : A → B) (j : ℕ) (xs : List A) → take j (map f xs) ≡ map f (take j xs)
take_map f zero xs = refl
take_map f (suc j) [] = refl
take_map f (suc j) (x ∷ xs) = ap (λ r. f x ∷ r) (take_map f j xs)

get_map : {A B : Type 0} (f : A → B) (xs : List A) (j : ℕ) (x : A) (ys : List A) → drop j xs ≡ x ∷ ys → slice_get (map f xs) j ≡ Some (f x)
get_map f [] zero x ys e = clash cc
get_map f [] (suc j) x ys e = clash cc
get_map f (y ∷ xs) zero x ys e = let u : y ≡ x = cc in ap (λ r. Some (f r)) u
get_map f (y ∷ xs) (suc j) x ys e = get_map f xs j x ys e

together_map : (f : Put → List Place) (xs : List Put) → together (map f xs) ≡ flat_map f xs
unfolding together flat_map
together_map f [] = refl
together_map f (x ∷ xs) = ap (λ r. f x ++ r) (together_map f xs)

-- ---- places of contents
consecutive : (a : ℕ) (cs : List Content) → Consecutive a (places_at a cs)
unfolding places_at
consecutive a [] = no_place
consecutive a (literal w ∷ cs) = next_place refl (consecutive (a + 2) cs)
consecutive a (address x ∷ cs) = next_place refl (consecutive (a + 2) cs)
consecutive a (long_address x ∷ cs) =
    let e : a + 2 + 2 ≡ a + 4 = omega arith in
    let k : Consecutive (a + 2 + 2) (places_at (a + 4) cs) = rw e (consecutive (a + 4) cs) in
    next_place refl (next_place refl k)

some_place : (a : ℕ) (c : Content) (cs : List Content) → 0 < length (places_at a (c ∷ cs))
unfolding places_at
some_place a (literal w) cs = omega arith
some_place a (address x) cs = omega arith
some_place a (long_address x) cs = omega arith

data_of : (a : ℕ) (k : Task) → DataPlaces a k (places_at a (data_contents k))
unfolding places_at data_contents
data_of a skipped = without_value (λ n v e. clash cc)
data_of a end = without_value (λ n v e. clash cc)
data_of a (org w) = without_value (λ n v e. clash cc)
data_of a no_org = without_value (λ n v e. clash cc)
data_of a label_only = without_value (λ n v e. clash cc)
data_of a (instruction i) = without_value (λ n v e. clash cc)
data_of a (value m w) = two_words refl
data_of a (space m) = without_value (λ n v e. clash cc)

module _ (z : Sizes) (e : Encoder) (base : ℕ) (s : Text) (p : Pass) (h : pass_at_by z base s ≡ accepted p) (Makes : ℕ → ℕ → Instruction → List Place → Type 0)
    (makes : (j a : ℕ) (ns : List Text) (l : Text) (i : Instruction) → Reached z base s j a ns → IsLine s j l → (line_of l).task ≡ instruction i
    → Makes j a i (places_at a (words_by e p.labels a i))) where
  passed : first_pass_by z base base [] (lines_of s) ≡ accepted p
  unfolding pass_at_by
  passed = (not_refused _ 4 0 _ p (checks_passed s _ p h).1).1

  abbrev code : Put → List Place
  code = code_places_by e p.labels

  code_of : (j a : ℕ) (k : Task) → ((i : Instruction) → k ≡ instruction i → Makes j a i (places_at a (words_by e p.labels a i)))
      → CodePlaces Makes j a k (places_at a (code_contents_by e p.labels a k))
  unfolding places_at code_contents_by
  code_of j a skipped m = no_instruction (λ i f. clash cc)
  code_of j a end m = no_instruction (λ i f. clash cc)
  code_of j a (org w) m = no_instruction (λ i f. clash cc)
  code_of j a no_org m = no_instruction (λ i f. clash cc)
  code_of j a label_only m = no_instruction (λ i f. clash cc)
  code_of j a (instruction i) m = its_words refl (m i refl)
  code_of j a (value n v) m = no_instruction (λ i f. clash cc)
  code_of j a (space n) m = no_instruction (λ i f. clash cc)

  lines_from : (ls : List Text) (j a : ℕ) (ns : List Text) → drop j (cut_at 10 s) ≡ ls → Reached z base s j a ns
      → LinePlaces z base Makes j a ls (map data_places (drop j p.puts)) (map code (drop j p.puts))
  unfolding data_places code_places_by
  lines_from [] j a ns d r = rw (over z base s p passed r d) past_all
  lines_from (l ∷ ls) j a ns d r = let k = line_at (cut_at 10 s) j l ls d in go k.0 (is_end (line_of l).task) refl (λ b ms q. lines_from ls (suc j) b ms k.1 q)
    where
      go : IsLine s j l → (x : Bool) → is_end (line_of l).task ≡ x
          → ((b : ℕ) (ms : List Text) → Reached z base s (suc j) b ms → LinePlaces z base Makes (suc j) b ls (map data_places (drop (suc j) p.puts)) (map code (drop (suc j) p.puts)))
          → LinePlaces z base Makes j a (l ∷ ls) (map data_places (drop j p.puts)) (map code (drop j p.puts))
      go i true f ih = let g : (line_of l).task ≡ end = is_end_lem (line_of l).task f in rw (ended z base s p passed l r i g) (ends_here g)
      go i false f ih =
          let g : (line_of l).task ≢ end = not_end (line_of l).task f in
          rw (asked z base s p passed l r i g)
          (a_line g (data_of a (line_of l).task) (code_of j a (line_of l).task (λ q w. makes j a ns l q r i w)) (ih _ _ (further r i g)))

  -- what stands before a line's words
  before_length : (j : ℕ) → length (words_before e p j) ≡ length (together (map data_places p.puts)) + length (together (take j (map code p.puts)))
  unfolding words_before
  before_length j =
      rw (take_map code j p.puts, together_map data_places p.puts, together_map code (take j p.puts))
      (length-append (flat_map data_places p.puts) (flat_map code (take j p.puts)))

  stands_there : (Leads : List ℕ → ℕ → ℤ → Type 0) (l : List Place) → second_pass_by e p ≡ l → (j a : ℕ) (i : Instruction) (t : ℕ) {ns : List Text} (k : Text)
      → Reached z base s j a ns → IsLine s j k → (line_of k).task ≡ instruction i → Landed Leads e p j a t l → StandsInTurn Leads z Makes base s j a t l
  unfolding second_pass_by code_places_by
  stands_there Leads l made j a i t k r is asks q =
      let go_on : (line_of k).task ≢ end = λ u. let v = sym asks ∙ u in clash cc in
      let put : Put = record { address = a; task = (line_of k).task } in
      let parts : words_before e p j ++ (code put ++ words_after e p j) ≡ words_before e p j ++ (marked_zero a q.words ++ words_after e p j) =
      sym (cut z e base s p h k r is go_on) ∙ made ∙ q.list in
      let its : code put ≡ marked_zero a q.words = same_back (code put) (marked_zero a q.words) (words_after e p j) (same_front (words_before e p j) parts) in
      record {
        data_places = map data_places p.puts;
        code_places = map code p.puts;
        each_line = lines_from (cut_at 10 s) zero base [] refl start;
        list = rw (together_map data_places p.puts, together_map code p.puts) (sym made);
        words = q.words;
        here = get_map code p.puts j put (drop (suc j) p.puts) (asked z base s p passed k r is go_on) ∙ ap Some its;
        lands = q.lands;
        stays = λ ds. rw (before_length j) at (q.stays ds);
      }

-- ---- what a call's list is of
record Called (z : Sizes) (e : Encoder) (base : ℕ) (s : Text) (l : List Place) : Type 0 where
  pass : Pass
  passes : pass_at_by z base s ≡ accepted pass
  made : second_pass_by e pass ≡ l

called : (z : Sizes) (e : Encoder) (base : ℕ) (s : Text) (l : List Place) → assemble_by z e base s ≡ accepted l → Called z e base s l
unfolding assemble_by and_then
called z e base s l h = go (pass_at_by z base s) refl h
  where
    go : (x : Answer Pass) → pass_at_by z base s ≡ x → and_then x (λ p. accepted (second_pass_by e p)) ≡ accepted l → Called z e base s l
    go (accepted p) f k = record { pass = p; passes = f; made = cc }
    go (refused n q) f k = clash cc

-- ---- the stations' call
module _ (names : List Mnemonic) (base : ℕ) (s : Text) (p : Pass) (h : pass_at base s ≡ accepted p) where
  ran : first_pass_by size base base [] (lines_of s) ≡ accepted p
  unfolding pass_at_by
  ran = (not_refused _ 4 0 _ p (checks_passed s _ p h).1).1

  recorded : (l : Text) (x : ℕ) → find l p.labels ≡ Some x → RecordedAt base s l x
  unfolding FoundIsLast
  recorded l x = (found_is_last size base s p h l x).0

  is_recorded : (l : Text) (x : ℕ) → RecordedAt base s l x → find l p.labels ≡ Some x
  unfolding FoundIsLast
  is_recorded l x = (found_is_last size base s p h l x).1

  makes_by : (j a : ℕ) (ns : List Text) (l : Text) (i : Instruction) → Reached size base s j a ns → IsLine s j l → (line_of l).task ≡ instruction i
      → MakesBy names base s j a i (places_at a (words_by (encode_by names) p.labels a i))
  unfolding ExplainsExactly RulesAreLawful contents data_contents code_contents_by places_at
  makes_by j a ns l i r e k = go (why_task names p.labels a (line_of l).task) (task_told names p.labels a (RecordedAt base s) recorded is_recorded (line_of l).task)
    where
      go_on : (line_of l).task ≢ end
      go_on u = let v = sym k ∙ u in clash cc

      told : (v : Verdict) → Right names base s p j a (line_of l).task v → explain_by names base s (suc j) ≡ accepted v
      told v q =
          (explains_exactly names base s (suc j) v).1
          (record { pass = p; passed = h; index = j; number = refl; address = a; recorded = ns; reached = r; line = l; is = e; right = q })

      go : (v : Verdict) → Told names p.labels (RecordedAt base s) a (line_of l).task v → MakesBy names base s j a i (places_at a (words_by (encode_by names) p.labels a i))
      go _ (worded {c} {cs} f) =
          let w : words_by (encode_by names) p.labels a i ≡ c ∷ cs = rw k at f in
          let few = (rules_are_lawful names).few p.labels a i in
          let n : 0 < length (places_at a (words_by (encode_by names) p.labels a i)) = rw w (some_place a c cs) in
          makes_words (told emitted (words (line_puts names p j a (line_of l).task (put_at_lem size base s p ran l r e go_on) c cs f)))
          (consecutive a (words_by (encode_by names) p.labels a i)) n few
      go _ (reasoned {r = x} f b m) =
          let w : words_by (encode_by names) p.labels a i ≡ [] = rw k at f in
          rw w (makes_none (told (because x) (reason (line_silent names p j a (line_of l).task (put_at_lem size base s p ran l r e go_on) f) b m)))

pub branches_stand : BranchesStand
unfolding BranchesStand BranchesLand
branches_stand base s l h j a i o t d m q =
    let c = called size (encode_by mnemonics) base s l h in
    stands_there size (encode_by mnemonics) base s c.pass c.passes (MakesBy mnemonics base s) (makes_by mnemonics base s c.pass c.passes) _ l c.made j a i t m.line m.reached m.is m.asks
    (branches_land base s c.pass l c.passes h j a i o t d m q)

pub branches_stand_by : BranchesStandBy
unfolding BranchesStandBy BranchesLandBy
branches_stand_by names base s l h j a i o t d m q =
    let c = called size (encode_by names) base s l h in
    stands_there size (encode_by names) base s c.pass c.passes (MakesBy names base s) (makes_by names base s c.pass c.passes) _ l c.made j a i t m.line m.reached m.is m.asks
    (branches_land_by names base s c.pass l c.passes h j a i o t d m q)

pub branches_stand_under : BranchesStandUnder
unfolding BranchesStandUnder BranchesLandUnder ListsUnder
branches_stand_under t ns w base s l h j a i o x d m q =
    let names : List Mnemonic = other_mnemonics ++ ns in
    let c = called size (encode_by names) base s l (sym (lists_under t ns w base s) ∙ h) in
    stands_there size (encode_by names) base s c.pass c.passes (MakesBy names base s) (makes_by names base s c.pass c.passes) _ l c.made j a i x m.line m.reached m.is m.asks
    (branches_land_under t ns w base s c.pass l c.passes h j a i o x d m q)

-- ---- the manual's call
makes_by_size : (base : ℕ) (s : Text) (p : Pass) (l : List Place) → pass_at_by manual_size base s ≡ accepted p → assemble_manual base s ≡ accepted l
    → (j a : ℕ) (ns : List Text) (k : Text) (i : Instruction) → Reached manual_size base s j a ns → IsLine s j k → (line_of k).task ≡ instruction i
    → MakesSize j a i (places_at a (words_by manual_encode p.labels a i))
makes_by_size base s p l h g j a ns k i r e f =
    let c = line_encoded base s p l h g k i r e f in
    let w : words_by manual_encode p.labels a i ≡ c.0 = rw c.1 in
    rw w (makes_size (consecutive a c.0) (sym (size_is_length.words p.labels a i c.0 c.1)))

pub manual_branches_stand : ManualBranchesStand
unfolding ManualBranchesStand ManualBranchesLand
manual_branches_stand base s l h j a i o t d m q =
    let c = called manual_size manual_encode base s l (plain base s l h) in
    stands_there manual_size manual_encode base s c.pass c.passes MakesSize (makes_by_size base s c.pass l c.passes h) _ l c.made j a i t m.line m.reached m.is m.asks
    (manual_branches_land base s c.pass l c.passes h j a i o t d m q)

pub loops_stand : LoopsStand
unfolding LoopsStand LoopsLand
loops_stand base s l h j a i o t d m q =
    let c = called manual_size manual_encode base s l (plain base s l h) in
    stands_there manual_size manual_encode base s c.pass c.passes MakesSize (makes_by_size base s c.pass l c.passes h) _ l c.made j a i t m.line m.reached m.is m.asks
    (loops_land base s c.pass l c.passes h j a i o t d m q)

-- ---- what words say, however they are moved
swap : (x y z : ℤ) → (x +ℤ y) +ℤ z ≡ (x +ℤ z) +ℤ y
swap x y z = +ℤ_assoc x y z ∙ ap (λ (w : ℤ). x +ℤ w) (+ℤ_comm y z) ∙ sym (+ℤ_assoc x z y)

dropped : {A : Type 0} (xs ys : List A) → drop (length xs) (xs ++ ys) ≡ ys
dropped [] ys = refl
dropped (x ∷ xs) ys = dropped xs ys

drop_moved : (d : ℤ) (n : ℕ) (l : List Place) → drop n (tally_list d l) ≡ tally_list d (drop n l)
unfolding tally_list
drop_moved d zero l = refl
drop_moved d (suc n) [] = refl
drop_moved d (suc n) (p ∷ ps) = drop_moved d n ps

all_there : {A : Type 0} (P : A → Type 0) (xs : List A) (y : A) (ys l : List A) → l ≡ xs ++ (y ∷ ys) → All P l → P y
all_there P xs y ys l e h = go xs (rw e at h)
  where
    go : (zs : List _) → All P (zs ++ (y ∷ ys)) → P y
    go [] k = k.0
    go (x ∷ zs) k = go zs k.1

-- one word of mark 0, whose address is the distance higher
one_moved : (d : ℤ) (a b w : ℕ) (front back l : List Place) → l ≡ front ++ (marked_zero a (w ∷ []) ++ back) → pos b ≡ pos a +ℤ d
    → take 1 (drop (length front) (tally_list d l)) ≡ marked_zero b (w ∷ [])
unfolding tally_list marked_zero moved_place moved_address moved_word
one_moved d a b w front back l e h =
    ap (λ (m : List Place). take 1 m)
    (drop_moved d (length front) l ∙ ap (λ (m : List Place). tally_list d (drop (length front) m)) e ∙ ap (tally_list d) (dropped front (marked_zero a (w ∷ []) ++ back)))
    ∙ rw (← h) refl

module _ (names : List Mnemonic) (base : ℕ) (s : Text) (p : Pass) (l : List Place) (h : pass_at base s ≡ accepted p)
    (made : assemble_by size (encode_by names) base s ≡ accepted l) where
  worded_landed : (j a c : ℕ) (d : ℤ) (t : ℕ) → Worded (encode_by names) p j a c d l → Landed (OneSays c d) (encode_by names) p j a t l
  unfolding RulesAreLawful marked_zero
  worded_landed j a c d t q = record { words = q.word ∷ []; list = q.list; lands = one_says q.says; stays = stays }
    where
      stays : (ds : List ℤ) → LandsMoved (OneSays c d) (q.word ∷ []) (length (words_before (encode_by names) p j)) a t l (tallied l (pos 0) ds)
      stays ds =
          let k = listed (rules_are_lawful names) base s l made in
          let good = grouped_good k.grouped in
          let six = sixteen l k.fit in
          let total : ℤ = last_total (pos 0) (tallied l (pos 0) ds) in
          let front = words_before (encode_by names) p j in
          let back = words_after (encode_by names) p j in
          let up = inside_reached total l (last_total_inside l good six (low l k.fit) ds) in
          let here = all_there (Moved total) front (place a q.word 0) back l q.list up in
          record {
            address = moved_address total a;
            moved = here;
            stand = ap (λ (m : List Place). take 1 (drop (length front) m)) (last_list_is l good six ds) ∙ one_moved total a (moved_address total a) q.word front back l q.list here;
            lands = one_says q.says;
          }

pub saying_branches_stand_by : SayingBranchesStandBy
unfolding SayingBranchesStandBy BranchesSayBy
saying_branches_stand_by names base s l h j a i c d b n t =
    let k = called size (encode_by names) base s l h in
    stands_there size (encode_by names) base s k.pass k.passes (MakesBy names base s) (makes_by names base s k.pass k.passes) _ l k.made j a i t b.line b.reached b.is b.asks
    (worded_landed names base s k.pass l k.passes h j a c d t (branches_say_by names base s k.pass l k.passes h j a i c d b n))

pub saying_branches_stand : SayingBranchesStand
unfolding SayingBranchesStand BranchesSay
saying_branches_stand base s l h j a i c d b n t =
    let k = called size (encode_by mnemonics) base s l h in
    stands_there size (encode_by mnemonics) base s k.pass k.passes (MakesBy mnemonics base s) (makes_by mnemonics base s k.pass k.passes) _ l k.made j a i t b.line b.reached b.is b.asks
    (worded_landed mnemonics base s k.pass l k.passes h j a c d t (branches_say base s k.pass l k.passes h j a i c d b n))

pub saying_branches_stand_under : SayingBranchesStandUnder
unfolding SayingBranchesStandUnder BranchesSayUnder ListsUnder
saying_branches_stand_under x ns w base s l h j a i c d b n t =
    let names : List Mnemonic = other_mnemonics ++ ns in
    let plainly : assemble_by size (encode_by names) base s ≡ accepted l = sym (lists_under x ns w base s) ∙ h in
    let k = called size (encode_by names) base s l plainly in
    stands_there size (encode_by names) base s k.pass k.passes (MakesBy names base s) (makes_by names base s k.pass k.passes) _ l k.made j a i t b.line b.reached b.is b.asks
    (worded_landed names base s k.pass l k.passes plainly j a c d t (branches_say_under x ns w base s k.pass l k.passes h j a i c d b n))
