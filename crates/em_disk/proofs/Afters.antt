-- What is held after one more change.
use Rattle.std.proofs.Common.{◌≡◌, ℕ, ◌+◌, ◌<◌, List, [], ◌∷◌, ◌++◌, length, get_or, take, refl, ap, sym, ◌∙◌, Option}
use Rattle.std.proofs.lemmas.List.{take_more}
use Rattle.em_disk.specs.Held.{Held, with_file}
use Rattle.em_disk.specs.Changes.{after}
use Rattle.em_disk.specs.declared.changes.Change.{Change}

after-append : (cs : List Change) (c : Change) (held : Option Held) → after (cs ++ c ∷ []) held ≡ with_file (after cs held) c.name c.new
after-append [] c held = refl
after-append (d ∷ cs) c held = after-append cs c (with_file held d.name d.new)

pub after_more : (cs : List Change) (i : ℕ) (c : Change) (held : Option Held) → i < length cs → c ≡ get_or cs i c → after (take (i + 1) cs) held ≡ with_file (after (take i cs) held) c.name c.new
after_more cs i c held h at = ap (λ xs. after xs held) (take_more cs i c h ∙ ap (λ x. take i cs ++ x ∷ []) (sym at)) ∙ after-append (take i cs) c held
