-- The parts by which a line is read, said of its bytes, are what the rules' functions give, and each is there. Assumes nothing.
use Prim.Native.Nat.{ℕ, zero, suc, ◌<◌}
use mathlib.Core.Path.{◌≡◌, refl, ap, ◌∙◌}
use mathlib.Core.Logic.{◌≢◌}
use mathlib.Core.Bool.{Bool, true, false}
use mathlib.Core.List.{List, [], ◌∷◌, ◌++◌}
use native.Mathlib.Omega.{arith}
use lib.Dec.{eqb}
use lib.ListN.{length, take, drop}
use borrow.Author.Tests.{eqb-true, eqb-false}
use Rattle.rules.specs.Text.{Text, blank, uppers, trim_start, keep_end, trim_end, trim, on_first, cut_where, drop_empty, pieces, uncut, around, in_front, first_cut, starts, contains, other_texts}
use Rattle.text.proofs.Until.{cut_here, cut_later}
use Rattle.text.proofs.Trim.{trim_end_none}
use Rattle.text.proofs.Pieces.{pieces_blank, drop_empty_keep}
use Rattle.tidylaws.proofs.Cuts.{cut_around}
use Rattle.promises.proofs.Decided.{Decided, yes, no}
use Rattle.promises_calls.specs.Directives.{no_bytes, next_byte, Blanks, Solid, NoColon, Bare, bare_empty, bare_one, bare_more, Trims, Colon, Ends, at_end, at_blank, Pieces, no_more, piece, Begins, Holds}

-- ---- trimming
pub blanks_start : {f : Text} → Blanks f → (u : Text) → trim_start (f ++ u) ≡ trim_start u
unfolding trim_start
blanks_start no_bytes u = refl
blanks_start (next_byte {b} {s} e q) u = rw (e, trim_start) (blanks_start q u)

pub all_start : {f : Text} → Blanks f → trim_start f ≡ []
unfolding trim_start
all_start no_bytes = refl
all_start (next_byte {b} {s} e q) = rw (e, trim_start) (all_start q)

pub all_end : {f : Text} → Blanks f → trim_end f ≡ []
unfolding trim_end keep_end
all_end no_bytes = refl
all_end (next_byte {b} {s} e q) = rw (all_end q, e)

pub blanks_end : (t : Text) {g : Text} → Blanks g → trim_end (t ++ g) ≡ trim_end t
unfolding trim_end
blanks_end [] q = all_end q
blanks_end (b ∷ t) q = ap (keep_end b) (blanks_end t q)

start_stays : (b : ℕ) (s : Text) → blank b ≡ false → trim_start (b ∷ s) ≡ b ∷ s
unfolding trim_start
start_stays b s e = rw (e, trim_start)

lone_end : (b : ℕ) (g : Text) → blank b ≡ false → Blanks g → trim_end (b ∷ g) ≡ b ∷ []
unfolding trim_end keep_end
lone_end b g e q = rw (all_end q, e)

pub bare_trim : {t g : Text} → Bare t → Blanks g → trim_end (trim_start (t ++ g)) ≡ t
unfolding trim_end
bare_trim {t} {g} (bare_empty e) q = rw (e, all_start q)
bare_trim {t} {g} (bare_one {b} e f) q = rw (e, start_stays b g f) (lone_end b g f q)
bare_trim {t} {g} (bare_more b c s e f h) q = rw (e, start_stays b ((s ++ (c ∷ [])) ++ g) f) (blanks_end (b ∷ (s ++ (c ∷ []))) q ∙ trim_end_none (b ∷ s) c h)

pub trims_is : {s t : Text} → Trims s t → trim s ≡ t
unfolding trim
trims_is {s} {t} q = rw (q.cut, blanks_start q.blanks_first (t ++ q.behind)) (bare_trim q.bare q.blanks_last)

-- blanks in front of a first byte that is none
data Led : Text → Type 0 where
  led_none : Led []
  led : {b : ℕ} {s : Text} → blank b ≡ false → Led (b ∷ s)

record Front (s : Text) : Type 0 where
  front : Text
  rest : Text
  cut : s ≡ front ++ rest
  blanks : Blanks front
  stays : Led rest

front_of : (s : Text) → Front s
front_of [] = record { front = []; rest = []; cut = refl; blanks = no_bytes; stays = led_none }
front_of (b ∷ s) = go (blank b) refl (front_of s)
  where
    go : (y : Bool) → blank b ≡ y → Front s → Front (b ∷ s)
    go true e q = record { front = b ∷ q.front; rest = q.rest; cut = ap (λ (x : Text). b ∷ x) q.cut; blanks = next_byte e q.blanks; stays = q.stays }
    go false e q = record { front = []; rest = b ∷ s; cut = refl; blanks = no_bytes; stays = led e }

-- and at the end, after a last one
data Last (t : Text) : Type 0 where
  last_none : t ≡ [] → Last t
  last_some : (s : Text) (c : ℕ) → t ≡ s ++ (c ∷ []) → blank c ≡ false → Last t

record Behind (u : Text) : Type 0 where
  rest : Text
  behind : Text
  cut : u ≡ rest ++ behind
  blanks : Blanks behind
  stays : Last rest

behind_of : (u : Text) → Behind u
behind_of [] = record { rest = []; behind = []; cut = refl; blanks = no_bytes; stays = last_none refl }
behind_of (b ∷ u) = let q = behind_of u in on q.rest q.behind q.cut q.blanks q.stays
  where
    alone : (y : Bool) → blank b ≡ y → (g : Text) → u ≡ g → Blanks g → Behind (b ∷ u)
    alone true e g c q = record { rest = []; behind = b ∷ g; cut = ap (λ (x : Text). b ∷ x) c; blanks = next_byte e q; stays = last_none refl }
    alone false e g c q = record { rest = b ∷ []; behind = g; cut = ap (λ (x : Text). b ∷ x) c; blanks = q; stays = last_some [] b refl e }

    on : (t g : Text) → u ≡ t ++ g → Blanks g → Last t → Behind (b ∷ u)
    on [] g c q l = alone (blank b) refl g c q
    on (d ∷ t) g c q (last_none e) = let z : ◌≡◌ {A = ℕ} 0 1 = cc in absurd (omega arith)
    on (d ∷ t) g c q (last_some s x e f) =
        record { rest = b ∷ d ∷ t; behind = g; cut = ap (λ (x : Text). b ∷ x) c; blanks = q; stays = last_some (b ∷ s) x (ap (λ (x : Text). b ∷ x) e) f }

bare_of : {t : Text} (g : Text) {u : Text} → u ≡ t ++ g → Led u → Last t → Bare t
bare_of {t} g c l (last_none e) = bare_empty e
bare_of {t} g {u} c l (last_some s x e f) = go s e
  where
    first : {u : Text} → Led u → (b : ℕ) (v : Text) → u ≡ b ∷ v → blank b ≡ false
    first led_none b v d = let z : ◌≡◌ {A = ℕ} 0 1 = cc in absurd (omega arith)
    first (led {b = a} h) b v d = let k : a ≡ b = cc in rw k at h

    go : (s : Text) → t ≡ s ++ (x ∷ []) → Bare t
    go [] d = bare_one d f
    go (b ∷ s) d = bare_more b x s d (first l b ((s ++ (x ∷ [])) ++ g) (c ∙ ap (λ (y : Text). y ++ g) d)) f

pub trims_of : (s : Text) → Trims s (trim s)
trims_of s =
    let q = front_of s in
    let r = behind_of q.rest in
    let made : Trims s r.rest = record { front = q.front; behind = r.behind; cut = q.cut ∙ ap (λ (x : Text). q.front ++ x) r.cut; blanks_first = q.blanks; blanks_last = r.blanks; bare = bare_of r.behind r.cut q.stays r.stays } in
    rw (trims_is made) made

-- ---- the first colon
pub whole_is : {s : Text} → NoColon s → first_cut 58 s ≡ uncut
unfolding first_cut in_front
whole_is no_bytes = refl
whole_is (next_byte {b} {s} e q) = rw (e, first_cut, whole_is q)

pub colon_is : {s l r : Text} → Colon s l r → first_cut 58 s ≡ around l r
colon_is {s} {l} {r} q = rw q.cut (cut_around l r (whole_is q.first))

pub data Cuts (s : Text) : Type 0 where
  whole : NoColon s → Cuts s
  parts : {l r : Text} → Colon s l r → Cuts s

pub cuts : (s : Text) → Cuts s
cuts [] = whole no_bytes
cuts (b ∷ s) = go (eqb b 58) refl (cuts s)
  where
    go : (y : Bool) → eqb b 58 ≡ y → Cuts s → Cuts (b ∷ s)
    go true e q = parts {l = []} {r = s} (record { cut = rw (eqb-true b 58 e); first = no_bytes })
    go false e (whole q) = whole (next_byte e q)
    go false e (parts {l} {r} q) = parts {l = b ∷ l} {r = r} (record { cut = ap (λ (x : Text). b ∷ x) q.cut; first = next_byte e q.first })

-- ---- what a text starts with, and what stands in it
starts_lem : (p u : Text) → Decided (take (length p) u ≡ p) (starts p u)
unfolding starts
starts_lem [] u = yes refl
starts_lem (a ∷ p) [] = no (λ e. let z : ◌≡◌ {A = ℕ} 0 1 = cc in absurd (omega arith))
starts_lem (a ∷ p) (b ∷ u) = go (eqb a b) refl (starts p u) (starts_lem p u)
  where
    go : (y : Bool) → eqb a b ≡ y → (z : Bool) → Decided (take (length p) u ≡ p) z → Decided (b ∷ take (length p) u ≡ a ∷ p) (elim y [ true ↦ z | false ↦ false ])
    go true e true (yes q) = yes (rw (q, eqb-true a b e))
    go true e false (no n) = no (λ h. n (cc))
    go false e z q = no (λ h. eqb-false a b e (cc))

pub begins : (p t : Text) → Decided (Begins p t) (starts p (uppers t))
begins p t = starts_lem p (uppers t)

abbrev Stands : Text → Text → Type 0
Stands p u = (k : ℕ) × (take (length p) (drop k u) ≡ p)

drop_nothing : (k : ℕ) → drop {A = ℕ} k [] ≡ []
drop_nothing zero = refl
drop_nothing (suc k) = refl

contains_lem : (p u : Text) → Decided (Stands p u) (contains p u)
unfolding contains
contains_lem p [] = go (starts p []) (starts_lem p [])
  where
    go : (y : Bool) → Decided (take (length p) [] ≡ p) y → Decided (Stands p []) y
    go true (yes e) = yes (0, e)
    go false (no n) = no (λ h. n (rw (drop_nothing h.0) at h.1))
contains_lem p (b ∷ u) = go (starts p (b ∷ u)) (starts_lem p (b ∷ u)) (contains p u) (contains_lem p u)
  where
    go : (y : Bool) → Decided (take (length p) (b ∷ u) ≡ p) y → (z : Bool) → Decided (Stands p u) z → Decided (Stands p (b ∷ u)) (elim y [ true ↦ true | false ↦ z ])
    go true (yes e) z q = yes (0, e)
    go false (no n) true (yes q) = yes (suc q.0, q.1)
    go false (no n) false (no m) = no (λ h. on h.0 h.1)
      where
        on : (k : ℕ) → take (length p) (drop k (b ∷ u)) ≡ p → ⊥
        on zero e = n e
        on (suc k) e = m (k, e)

pub holds : (p t : Text) → Decided (Holds p t) (contains p (uppers t))
holds p t = go (contains p (uppers t)) (contains_lem p (uppers t))
  where
    go : (y : Bool) → Decided (Stands p (uppers t)) y → Decided (Holds p t) y
    go true (yes q) = yes (record { place = q.0; there = q.1 })
    go false (no n) = no (λ h. n (h.place, h.there))

-- ---- pieces
blanks_pieces : {f : Text} → Blanks f → (u : Text) → pieces (f ++ u) ≡ pieces u
blanks_pieces no_bytes u = refl
blanks_pieces (next_byte {b} {s} e q) u = pieces_blank b (s ++ u) e ∙ blanks_pieces q u

all_pieces : {f : Text} → Blanks f → pieces f ≡ []
unfolding pieces cut_where drop_empty
all_pieces no_bytes = refl
all_pieces (next_byte {b} {s} e q) = pieces_blank b s e ∙ all_pieces q

ends_cut : {u : Text} → Ends u → cut_where blank u ≡ [] ∷ other_texts (cut_where blank u)
unfolding cut_where other_texts
ends_cut at_end = refl
ends_cut (at_blank {b} {s} e) = rw (cut_here blank b s e)

ends_pieces : {u : Text} → Ends u → drop_empty (other_texts (cut_where blank u)) ≡ pieces u
unfolding cut_where other_texts pieces drop_empty
ends_pieces at_end = refl
ends_pieces (at_blank {b} {s} e) = rw (cut_here blank b s e)

solid_cut : {p : Text} → Solid p → {u : Text} → Ends u → cut_where blank (p ++ u) ≡ p ∷ other_texts (cut_where blank u)
unfolding on_first
solid_cut no_bytes en = ends_cut en
solid_cut (next_byte {b} {s} e q) {u} en = cut_later blank b (s ++ u) e ∙ ap (on_first b) (solid_cut q en)

some_bytes : (p : Text) → p ≢ [] → 0 < length p
some_bytes [] n = absurd (n refl)
some_bytes (b ∷ p) n = omega arith

pub pieces_is : {t : Text} {ps : List Text} → Pieces t ps → pieces t ≡ ps
unfolding pieces
pieces_is (no_more q) = all_pieces q
pieces_is (piece {t} {f} {p} {u} {ps} e bl so n en q) =
    ap pieces e ∙ blanks_pieces bl (p ++ u) ∙ ap drop_empty (solid_cut so en) ∙ drop_empty_keep p _ (some_bytes p n) ∙ ap (λ (x : List Text). p ∷ x) (ends_pieces en ∙ pieces_is q)

record Made (t : Text) : Type 0 where
  list : List Text
  made : Pieces t list

more_blank : {b : ℕ} {s : Text} → blank b ≡ true → {ps : List Text} → Pieces s ps → Pieces (b ∷ s) ps
more_blank e (no_more q) = no_more (next_byte e q)
more_blank {b} e (piece {f} x bl so n en q) = piece {f = b ∷ f} (ap (λ (y : Text). b ∷ y) x) (next_byte e bl) so n en q

some_byte : (b : ℕ) (s : Text) → b ∷ s ≢ []
some_byte b s e = let z : ◌≡◌ {A = ℕ} 0 1 = cc in absurd (omega arith)

-- a byte that is no blank, in front of a blank or at the end, and in front of a piece
pub one_byte : (b : ℕ) {s : Text} → blank b ≡ false → Ends s → {ps : List Text} → Pieces s ps → Pieces (b ∷ s) ((b ∷ []) ∷ ps)
one_byte b {s} e en q = piece {f = []} {p = b ∷ []} {u = s} refl no_bytes (next_byte e no_bytes) (some_byte b []) en q

more_solid : (b : ℕ) {s : Text} → blank b ≡ false → {ps : List Text} → Pieces s ps → Made (b ∷ s)
more_solid b e (no_more no_bytes) = record { list = _; made = one_byte b e at_end (no_more no_bytes) }
more_solid b e (no_more (next_byte f q)) = record { list = _; made = one_byte b e (at_blank f) (no_more (next_byte f q)) }
more_solid b e (piece {p} {u} {ps} x no_bytes so n en q) = record { list = (b ∷ p) ∷ ps; made = piece {f = []} {p = b ∷ p} {u = u} (ap (λ (y : Text). b ∷ y) x) no_bytes (next_byte e so) (some_byte b p) en q }
more_solid b {s} e (piece {t} {f} {p} {u} {ps} x (next_byte {b = c} {s = g} h bl) so n en q) =
    record { list = (b ∷ []) ∷ p ∷ ps; made = one_byte b e (rw x (at_blank {b = c} {s = g ++ (p ++ u)} h)) (piece x (next_byte h bl) so n en q) }

make : (t : Text) → Made t
make [] = record { list = []; made = no_more no_bytes }
make (b ∷ s) = go (blank b) refl (make s)
  where
    go : (y : Bool) → blank b ≡ y → Made s → Made (b ∷ s)
    go true e q = record { list = q.list; made = more_blank e q.made }
    go false e q = more_solid b e q.made

pub pieces_of : (t : Text) → Pieces t (pieces t)
pieces_of t = let q = make t in rw (pieces_is q.made) q.made
