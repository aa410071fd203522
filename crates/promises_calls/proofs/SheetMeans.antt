-- The mean of every series. Assumes nothing.
use Prim.Native.Nat.{suc, ◌+◌, ◌≤◌}
use mathlib.Core.Path.{◌≡◌, sym, ap, ◌∙◌}
use mathlib.Core.List.{List, ◌∷◌}
use native.Mathlib.Omega.{arith}
use lib.ListN.{length}
use Rattle.rules.specs.Text.{Text}
use Rattle.requests.specs.Sheet.{Totals, mean_of}
use Rattle.promises.specs.Sheet.{IsSheet, of_accepted, of_refused, Added, OfSeries, no_source, with_source}
use Rattle.promises.proofs.Compared.{clash, Compared, less, more, equal, compared}
use Rattle.promises.proofs.Sheet.{sheets_add_up}
use Rattle.promises_calls.specs.SheetMeans.{WordsAndScripts, no_script, listed_script, refused_script, MeansAreGiven}

one_source : {s : Text} {ss : List Text} {t u v : Totals} → IsSheet s t → Added t u v → WordsAndScripts ss u.words u.accepted_sources
    → WordsAndScripts (s ∷ ss) v.words v.accepted_sources
one_source {t = t} {u} {v} (of_accepted k) a h =
    let w : v.words ≡ length k.list + u.words = a.of_words ∙ ap (λ n. n + u.words) k.of_words in
    let c : v.accepted_sources ≡ suc u.accepted_sources = a.of_accepted ∙ ap (λ n. n + u.accepted_sources) k.accepts ∙ omega arith in
    rw (w, c) (listed_script k.listed h)
one_source {t = t} {u} {v} (of_refused k) a h =
    let w : v.words ≡ u.words = a.of_words ∙ ap (λ (x : Totals). x.words + u.words) k.adds_only ∙ omega arith in
    let c : v.accepted_sources ≡ u.accepted_sources = a.of_accepted ∙ ap (λ (x : Totals). x.accepted_sources + u.accepted_sources) k.adds_only ∙ omega arith in
    rw (w, c) (refused_script k.condition h)

series : {ss : List Text} {t : Totals} → OfSeries ss t → WordsAndScripts ss t.words t.accepted_sources
series no_source = no_script
series (with_source i h a) = one_source i a (series h)

pub means_are_given : MeansAreGiven
unfolding MeansAreGiven mean_of
means_are_given ss t e = go (compared 1000000 (length ss))
  where
    fits : length ss ≤ 1000000 → WordsAndScripts ss t.words t.accepted_sources
    fits h =
        let k = sheets_add_up.accepts ss h in
        let g = sym k.answered ∙ e in
        let u : k.sheet ≡ t = cc in
        rw u at (series k.of_series)

    go : Compared 1000000 (length ss) → WordsAndScripts ss t.words t.accepted_sources
    go (less h) = let g = sym (sheets_add_up.refuses ss h) ∙ e in clash cc
    go (more h) = fits (omega arith)
    go (equal h) = fits (omega arith)
