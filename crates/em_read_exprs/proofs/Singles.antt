-- Lists of one expression.
use Rattle.std.proofs.Common.{◌≡◌, Bool, true, false, List, [], ◌∷◌, ◌++◌, Option, Some, None, refl, ap, subst, ◌∙◌}
use Rattle.em_base.specs.declared.token.Token.{Token}
use Rattle.em_tree.specs.declared.expr.Expr.{Expr}
use Rattle.em_tree.specs.declared.parts.Listed.{Listed}
use Rattle.em_grammar.specs.Lang.{listed}
use Rattle.em_grammar.specs.PrefixReader.{is_single, is_none}

no_comma : (e : Expr) (c : Option Token) → is_none c ≡ true → listed e c ∷ [] ≡ listed e None ∷ []
no_comma e None h = refl
no_comma e (Some t) h = cc

last : (ys : List (Listed Expr)) (x : Listed Expr) → is_single (ys ++ x ∷ []) ≡ true → ys ++ x ∷ [] ≡ listed x.item None ∷ []
last [] x h = no_comma x.item x.comma h
last (y ∷ []) x h = cc
last (y ∷ z ∷ rest) x h = cc

pub single_last : (xs ys : List (Listed Expr)) (x : Listed Expr) → xs ≡ ys ++ x ∷ [] → is_single xs ≡ true → xs ≡ listed x.item None ∷ []
single_last xs ys x is h = is ∙ last ys x (subst (λ l. is_single l ≡ true) is h)
