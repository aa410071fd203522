-- What is held of a name, as a chunk goes on. Assumes nothing.
use Rattle.std.proofs.Common.{ℕ, ◌≡◌, refl, sym, ap, ◌∙◌, cond, List, [], ◌∷◌, ◌++◌, length, take, map, min, length-take-le, arith}
use Rattle.std.specs.Prelude.{eqb, ltb}
use lib.Seq.{take-nil}
use Rattle.rules.specs.Text.{Text, cut_where, cut_at}
use Rattle.sheettext.specs.Names.{name_kept, NamesRead}
use Rattle.sheettext.proofs.Lines.{names_read_on}
use Rattle.cli_totals.specs.Names.{last_name}
use Rattle.cli_totals.specs.Steps.{Holds, name_if}
use Rattle.cli_totals.proofs.Cutting.{cut_single}

pub hold_none : (name : List ℕ) → length name ≡ 4097 → Holds [] name 0
unfolding cut_at cut_where name_kept
hold_none name h = record { plain = refl; room = h; count = omega arith; front = sym (take-nil 4097) }

-- as names that are read: none is given on
pub as_read : {rest : Text} {name : List ℕ} {held : ℕ} → Holds rest name held → NamesRead rest [] name held
as_read {rest} h = record { lines = []; last = rest; cut = h.plain; names = refl; room = h.room; count = h.count; front = h.front }

pub as_held : {rest : Text} {name : List ℕ} {held : ℕ} → NamesRead rest [] name held → Holds rest name held
unfolding cut_at
as_held {rest} {name} {held} r = go r.lines r.last r.cut r.names r.count r.front
  where
    go : (ls : List Text) (last : Text) → cut_at 10 rest ≡ ls ++ (last ∷ []) → [] ≡ map name_kept ls → held ≡ min 4097 (length last)
        → take held name ≡ name_kept last → Holds rest name held
    go [] last c e k f =
        let same : last ≡ rest = cut_single (eqb 10) rest last c in
        record {
          plain = c ∙ ap (λ (x : Text). x ∷ []) same;
          room = r.room;
          count = k ∙ ap (λ (x : Text). min 4097 (length x)) same;
          front = f ∙ ap name_kept same;
        }
    go (l ∷ ls) last c e k f = absurd (cc)

-- at the end
module _ {rest : Text} {name : List ℕ} {held : ℕ} (h : Holds rest name held) where
  held_length : length (take held name) ≡ held
  held_length = length-take-le held name (omega (arith, h.count, h.room))

  pub last_held : last_name rest ≡ name_if (take held name)
  last_held =
      names_read_on.over rest [] name held (as_read h)
      ∙ ap (λ (n : ℕ). cond (ltb 0 n) (take held name ∷ []) []) (sym held_length)
