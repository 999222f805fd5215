-- One variable more of a repetition.
use Rattle.std.proofs.Common.{◌≡◌, ℕ, ◌+◌, ◌<◌, List, [], ◌∷◌, ◌++◌, length, map, drop, get_or, sym, ◌∙◌, ap, append_assoc}
use Rattle.em_macro.specs.declared.matched.Bound.TheVariants as b
use Rattle.em_macro.specs.Match.{Name, Bindings, binding, bound_to, gather}
use Rattle.em_macro.proofs.Turns.{next_item}

pub gather_goes : (ns : List Name) (cs : List Bindings) (at : ℕ) (n : Name) (found new : Bindings) → at < length ns → n ≡ get_or ns at n
    → new ≡ found ++ binding n (b.Many (map (bound_to n) cs)) ∷ [] → found ++ gather (drop at ns) cs ≡ new ++ gather (drop (at + 1) ns) cs
gather_goes ns cs at n found new below is joined =
    ap (λ l. found ++ gather l cs) (next_item ns at n below is)
    ∙ sym (append_assoc found (binding n (b.Many (map (bound_to n) cs)) ∷ []) (gather (drop (at + 1) ns) cs))
    ∙ ap (λ l. l ++ gather (drop (at + 1) ns) cs) (sym joined)
