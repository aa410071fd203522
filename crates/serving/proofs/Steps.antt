-- One input more, and the inputs before it. Assumes nothing.
use Rattle.std.proofs.Common.{◌≡◌, ℕ, ◌+◌, ◌<◌, ◌⊎◌, inl, inr, Bool, true, ◌&&◌, List, [], ◌∷◌, ◌++◌, map, take, drop, length, get_or, Option, None, Result, Ok, Err, IfOk, IfErr, IsErrAnd, refl, sym, ap, ◌∙◌, subst, append_assoc, append-nil, flat_map}
use Rattle.std.proofs.lemmas.List.{take_more, take-append-drop, map-append}
use Rattle.std.proofs.lemmas.List.Elements.{All-nil, All-cons, All-append}
use Rattle.std.proofs.lemmas.List.Folds.{list_all-append}
use Rattle.std.proofs.lemmas.List.Concat.{flat_map-append}
use Rattle.std.proofs.Math.Bool.{and-true}
use Rattle.std.specs.List.{list_all}
use Rattle.std.specs.Prelude.{⊤}
use Rattle.std.specs.declared.alloc.AllocError.{AllocError}
use Rattle.std.specs.declared.io.Error.{Error}
use Rattle.rules.specs.Text.{Text}
use Rattle.outcome.specs.Made.{Made, made}
use Rattle.outcome.specs.Joined.{between, joined}
use Rattle.outcome.specs.declared.making.Part.{Part}
use Rattle.outcome.specs.declared.making.Joining.{Joining}
use Rattle.outcome.specs.declared.Outcome.{Outcome}
use Rattle.serving.specs.Said.{Called, named, with_input, Tells}
use Rattle.serving.specs.Served.{Held}
use Rattle.serving.specs.Gathered.{Taken, IsTaken, Takes, Stops, Halts, Halted, NoRoom, PutAll, ServedEach, parts}
use Rattle.serving.specs.Gathering.{Gathering, lead}
use Rattle.serving.specs.declared.gathering.Gathered.{Gathered}

-- ---- one input

-- what is said of it is told of its outcome
pub told_stops : (c : Called) (old new : Option (List ℕ)) (m : Made) (o r : Outcome) (s k : Text) → Stops m o → r ≡ o → s ≡ k → Tells c s o old new
    → Stops m r × Tells c k r old new
told_stops c old new m o r s k x e f t = (subst (Stops m) (sym e) x, subst (λ v. Tells c k v old new) (sym e) (subst (λ l. Tells c l o old new) f t))

module _ (h : Option Text → Option (List ℕ)) (f : Text → Text → Made) (n : Option Text) (b : Text) (held : Held (h n) b) where
  pub part_taken : (ok : Text → Bool) (s : Text) (r : Result Part Outcome) → s ≡ named n → IfOk r (λ p. (f s b ≡ made p.text.items) × (p.accepted ≡ ok b))
      → IfOk r (λ p. (b : Text) × Held (h n) b × (f (named n) b ≡ made p.text.items) × (p.accepted ≡ ok b))
  part_taken ok s (Ok p) e q = (b, held, ap (λ t. f t b) (sym e) ∙ q.0, q.1)
  part_taken ok s (Err o) e q = tt

  pub part_halts : (c d : Called) (k : ℕ) (old new : Option (List ℕ)) (r : Result Part Outcome) → d ≡ with_input c n
      → IfErr r (λ o. Stops (f d.input b) o × Tells d (take k b) o old new)
      → IfErr r (Halts h f k (λ n s o. Tells (with_input c n) s o old new) n)
  part_halts c d k old new (Ok p) e q = tt
  part_halts c d k old new (Err o) e q =
      let z = subst (λ v. Stops (f v.input b) o × Tells v (take k b) o old new) e q in inr (b, held, z.0, z.1)

-- ---- the parts so far, and one more

pub between_more : (j : Text) (ps : List Text) (p : Text) → (between j ps ++ lead j ps) ++ p ≡ between j (ps ++ (p ∷ []))
unfolding between
between_more j [] p = sym (append-nil p)
between_more j (q ∷ ps) p =
    ap (λ l. l ++ p) (append_assoc q (flat_map (λ t. j ++ t) ps) j) ∙ append_assoc q (flat_map (λ t. j ++ t) ps ++ j) p
    ∙ ap (λ l. q ++ l) (append_assoc (flat_map (λ t. j ++ t) ps) j p ∙ ap (λ l. flat_map (λ t. j ++ t) ps ++ l) (sym (append-nil (j ++ p))) ∙ sym (flat_map-append (λ t. j ++ t) ps (p ∷ [])))

pub lead_more : (j : Text) (ps : List Text) (p : Text) → j ≡ lead j (ps ++ (p ∷ []))
lead_more j [] p = refl
lead_more j (q ∷ ps) p = refl

module _ (h : Option Text → Option (List ℕ)) (f : Text → Text → Made) (ok : Text → Bool) (x : Joining) where
  pub nothing_yet : (g : Gathered) → g.text.items ≡ x.front.now → g.lead.now ≡ [] → g.all ≡ true → Gathering h f ok x [] g
  unfolding between
  nothing_yet g t l a =
      record { taken = []; takes = record { names = refl; each = All-nil (IsTaken h f) }; text = t ∙ sym (append-nil x.front.now); led = l; all = a }

  module _ (ns : List (Option Text)) (n : Option Text) (b p : Text) (accepted : Bool) (held : Held (h n) b) (made_so : f (named n) b ≡ made p) (accepted_so : accepted ≡ ok b) where
    new : Taken
    new = record { name = n; input = b; part = p }

    pub one_more : (g e : Gathered) → Gathering h f ok x ns g → e.text.items ≡ (g.text.items ++ g.lead.now) ++ p → e.lead.now ≡ x.between.now → e.all ≡ (g.all && accepted)
        → Gathering h f ok x (ns ++ (n ∷ [])) e
    unfolding new
    one_more g e k t l a =
        let j = x.between.now in
        let xs = k.taken in
        let last : List Taken = new ∷ [] in
        let joined_so : parts xs ++ (p ∷ []) ≡ parts (xs ++ last) = sym (map-append (λ t. t.part) xs last) in
        record {
          taken = xs ++ last;
          takes = record {
            names = map-append (λ t. t.name) xs last ∙ ap (λ l. l ++ (n ∷ [])) k.takes.names;
            each = All-append (IsTaken h f) xs last k.takes.each (All-cons (IsTaken h f) new [] (held, made_so) (All-nil (IsTaken h f)));
          };
          text =
              t ∙ ap (λ l. (l ++ g.lead.now) ++ p) k.text ∙ ap (λ l. ((x.front.now ++ between j (parts xs)) ++ l) ++ p) k.led
              ∙ ap (λ l. l ++ p) (append_assoc x.front.now (between j (parts xs)) (lead j (parts xs)))
              ∙ append_assoc x.front.now (between j (parts xs) ++ lead j (parts xs)) p
              ∙ ap (λ l. x.front.now ++ l) (between_more j (parts xs) p)
              ∙ ap (λ l. x.front.now ++ between j l) joined_so;
          led = l ∙ lead_more j (parts xs) p ∙ ap (lead j) joined_so;
          all =
              a ∙ ap (λ v. v && accepted) k.all ∙ ap (λ v. list_all (λ t. ok t.input) xs && v) (accepted_so ∙ sym (and-true (ok b)))
              ∙ sym (list_all-append (λ t. ok t.input) xs last);
        }

    pub more_ok : (g : Gathered) (added : Result Gathered AllocError) (r : Result Gathered Outcome) → Gathering h f ok x ns g
        → IfOk added (λ e. (e.text.items ≡ (g.text.items ++ g.lead.now) ++ p) × (e.lead.now ≡ x.between.now) × (e.all ≡ (g.all && accepted)))
        → IfOk r (λ e. added ≡ Ok e) → IfOk r (Gathering h f ok x (ns ++ (n ∷ [])))
    more_ok g added (Ok e) k facts same = let q = subst (λ v. IfOk v (λ e. (e.text.items ≡ (g.text.items ++ g.lead.now) ++ p) × (e.lead.now ≡ x.between.now) × (e.all ≡ (g.all && accepted)))) same facts in one_more g e k q.0 q.1 q.2
    more_ok g added (Err o) k facts same = tt

-- ---- the names, one after another

module _ {X Y : Type 0} (s : X → Y) (xs : List X) (i : ℕ) (d : X) (within : i < length xs) where
  pub names_more : map s (take i xs) ++ (s (get_or xs i d) ∷ []) ≡ map s (take (i + 1) xs)
  names_more = sym (ap (map s) (take_more xs i d within) ∙ map-append s (take i xs) (get_or xs i d ∷ []))

  pub names_split : map s xs ≡ map s (take i xs) ++ (s (get_or xs i d) ∷ map s (drop (i + 1) xs))
  names_split =
      ap (map s) (sym (take-append-drop (i + 1) xs)) ∙ map-append s (take (i + 1) xs) (drop (i + 1) xs) ∙ ap (λ l. l ++ map s (drop (i + 1) xs)) (sym names_more)
      ∙ append_assoc (map s (take i xs)) (s (get_or xs i d) ∷ []) (map s (drop (i + 1) xs))

-- ---- one of them halts the call, or there is no memory for it
module _ (h : Option Text → Option (List ℕ)) (f : Text → Text → Made) (ok : Text → Bool) (x : Joining) (k : ℕ) (c : Called) (old mid new : Option (List ℕ)) (quiet : mid ≡ old) where
  abbrev pub Says_all : Option (List ℕ) → Option Text → Text → Outcome → Type 0
  Says_all v n s o = Tells (with_input c n) s o v new

  pub halted : (ns : List (Option Text)) (n : Option Text) (after all : List (Option Text)) (g : Gathered) (o : Outcome) → Gathering h f ok x ns g → all ≡ ns ++ (n ∷ after)
      → Halts h f k (Says_all mid) n o ⊎ NoRoom mid new o → Halted h f k (Says_all old) all o ⊎ NoRoom old new o
  halted ns n after all g o z e w =
      elim (subst (λ v. Halts h f k (Says_all v) n o ⊎ NoRoom v new o) quiet w) [
        | inl v ↦ inl (record { before = z.taken; name = n; after = after; order = e ∙ ap (λ l. l ++ (n ∷ after)) (sym z.takes.names); each = z.takes.each; why = v })
        | inr v ↦ inr v
      ]

  pub halted_so : (ns : List (Option Text)) (n : Option Text) (after all : List (Option Text)) (g : Gathered) (o : Outcome) (r : Result Gathered Outcome) → IsErrAnd r (λ u. u ≡ o)
      → Gathering h f ok x ns g → all ≡ ns ++ (n ∷ after) → Halts h f k (Says_all mid) n o ⊎ NoRoom mid new o
      → IfErr r (λ o. Halted h f k (Says_all old) all o ⊎ NoRoom old new o)
  halted_so ns n after all g o (Ok u) is z e w = tt
  halted_so ns n after all g o (Err u) is z e w = subst (λ v. Halted h f k (Says_all old) all v ⊎ NoRoom old new v) (sym is) (halted ns n after all g o z e w)

-- nothing was said before
module _ (c d : Called) (old mid new : Option (List ℕ)) (quiet : mid ≡ old) where
  pub halted_from : (h : Option Text → Option (List ℕ)) (f : Text → Text → Made) (k : ℕ) (all : List (Option Text)) (o : Outcome)
      → Halted h f k (λ n s o. Tells (with_input c n) s o mid new) all o ⊎ NoRoom mid new o → Halted h f k (λ n s o. Tells (with_input c n) s o old new) all o ⊎ NoRoom old new o
  halted_from h f k all o w = subst (λ v. Halted h f k (λ n s o. Tells (with_input c n) s o v new) all o ⊎ NoRoom v new o) quiet w

  pub said_from : (s : Text) (o : Outcome) → d ≡ c → Tells d s o mid new → Tells c s o old new
  said_from s o e w = subst (λ v. Tells v s o old new) e (subst (λ v. Tells d s o v new) quiet w)

-- ---- what stands after all
module _ (h : Option Text → Option (List ℕ)) (f : Text → Text → Made) (ok : Text → Bool) (x : Joining) (ns : List (Option Text)) where
  pub ended : (g : Gathered) (added : Result Gathered AllocError) (r : Result Gathered Outcome) → Gathering h f ok x ns g
      → IfOk added (λ e. (e.text.items ≡ g.text.items ++ x.behind.now) × (e.all ≡ g.all)) → IfOk r (λ e. added ≡ Ok e)
      → IfOk r (λ e. (xs : List Taken) × Takes h f ns xs × (e.text.items ≡ joined x (parts xs)) × (e.all ≡ list_all (λ t. ok t.input) xs))
  unfolding joined
  ended g added (Ok e) k facts same =
      let q = subst (λ v. IfOk v (λ e. (e.text.items ≡ g.text.items ++ x.behind.now) × (e.all ≡ g.all))) same facts in
      (k.taken, k.takes, q.0 ∙ ap (λ l. l ++ x.behind.now) k.text, q.1 ∙ k.all)
  ended g added (Err o) k facts same = tt

-- ---- the text of all is put
module _ (h : Option Text → Option (List ℕ)) (f : Text → Text → Text → Made) (ok : Text → Text → Bool) (t : Option (List ℕ)) (x : Joining) (n : ℕ) (ns : List (Option Text))
    (puts : Text → Result ⊤ Error → Type 0) (same : Type 0) (tells : Option Text → Text → Outcome → Type 0) (no_room : Outcome → Type 0) (a : Text) (held : Held t a) where
  pub served_all : (xs : List Taken) (s : Text) (all : Bool) (o r : Outcome) → Takes h (f a) ns xs → s ≡ joined x (parts xs) → all ≡ list_all (λ v. ok a v.input) xs → r ≡ o
      → PutAll s all puts o → tells None [] o → ServedEach h f ok t x n ns puts same tells no_room r
  served_all xs s all o r k e g is p w =
      subst (ServedEach h f ok t x n ns puts same tells no_room) (sym is)
      (inr (a, held, inr (xs, k, subst (λ v. PutAll (joined x (parts xs)) v puts o) g (subst (λ v. PutAll v all puts o) e p), w)))

pub served_named : (h : Option Text → Option (List ℕ)) (f : Text → Text → Text → Made) (ok : Text → Text → Bool) (t : Option (List ℕ)) (x : Joining) (n : ℕ) (ns : List (Option Text))
    (puts : Text → Result ⊤ Error → Type 0) (same : Type 0) (no_room : Outcome → Type 0) (old new : Option (List ℕ)) (r : Outcome) (d c : Called) → d ≡ c
    → ServedEach h f ok t x n ns puts same (λ n s o. Tells (with_input d n) s o old new) no_room r
    → ServedEach h f ok t x n ns puts same (λ n s o. Tells (with_input c n) s o old new) no_room r
served_named h f ok t x n ns puts same no_room old new r d c e = subst (λ v. ServedEach h f ok t x n ns puts same (λ n s o. Tells (with_input v n) s o old new) no_room r) e
