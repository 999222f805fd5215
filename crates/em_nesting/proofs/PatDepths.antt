-- How deep patterns nest, one layer.
use Rattle.std.proofs.Common.{◌≡◌, ℕ, suc, List, [], ◌∷◌, Option, refl, ◌∙◌, ap, max}
use Rattle.em_base.specs.declared.token.Token.{Token}
use Rattle.em_tree.specs.declared.parts.Listed.{Listed}
use Rattle.em_tree.specs.declared.piece.Group.{Group}
use Rattle.em_tree.specs.declared.literal.Literal.{Literal}
use Rattle.em_tree.specs.declared.types.Path.{Path}
use Rattle.em_tree.specs.declared.pat.FieldPat.{FieldPat}
use Rattle.em_tree.specs.declared.pat.FieldPat.TheVariants as field
use Rattle.em_tree.specs.declared.pat.Pat.{Pat, out-Pat, fold_out-Pat, map-Pat}
use Rattle.em_tree.specs.declared.pat.Pat.TheVariants as pat
use Rattle.em_tree.specs.declared.pat.Pat.TheOpen.{Pat-F}
use Rattle.em_tree.specs.declared.pat.Pat.TheShapes.{former-Pat-Struct-2-at-8}
use Rattle.em_tree.specs.declared.pat.Alternative.{Alternative}
use Rattle.em_tree.specs.declared.pat.TopPat.{TopPat, out-TopPat, fold_out-TopPat, map-TopPat}
use Rattle.em_tree.specs.declared.pat.TopPat.TheVariants as top
use Rattle.em_tree.specs.declared.pat.TopPat.TheOpen.{TopPat-F}
use Rattle.em_tree.specs.Nesting.{greatest, path_nesting, field_depth, pat_depth, pat_nesting, top_depth, top_nesting}
use Rattle.em_nesting.specs.Depths.{field_nesting}
use Rattle.em_nesting.proofs.TypeDepths.{greatest_map}

pub greatest_alike : {A : Type 0} (f k : A → ℕ) → ((x : A) → f x ≡ k x) → (xs : List A) → greatest f xs ≡ greatest k xs
greatest_alike f k same [] = refl
greatest_alike f k same (x ∷ xs) = ap (λ r. max r (greatest f xs)) (same x) ∙ ap (λ r. max (k x) r) (greatest_alike f k same xs)

at_pat : (x : Pat) (l : Pat-F Pat) → out-Pat x ≡ l → pat_nesting x ≡ pat_depth (map-Pat Pat ℕ pat_nesting l)
unfolding pat_nesting
at_pat x l is = fold_out-Pat ℕ pat_depth x ∙ ap (λ k. pat_depth (map-Pat Pat ℕ pat_nesting k)) is

at_top : (x : TopPat) (l : TopPat-F TopPat) → out-TopPat x ≡ l → top_nesting x ≡ top_depth (map-TopPat TopPat ℕ top_nesting l)
unfolding top_nesting
at_top x l is = fold_out-TopPat ℕ top_depth x ∙ ap (λ k. top_depth (map-TopPat TopPat ℕ top_nesting k)) is

field_alike : (item : FieldPat Pat) (comma : Option Token) → field_depth (former-Pat-Struct-2-at-8.map Pat ℕ pat_nesting (record { item = item; comma = comma })).item ≡ field_nesting item
field_alike (field.Full name colon pat) comma = refl
field_alike (field.Short word_ref word_mut name) comma = refl

pub wild_pat : (t : Token) → pat_nesting (pat.Wild t) ≡ 1
wild_pat t = at_pat (pat.Wild t) (Pat-F.Wild t) (pat.outs-Wild t)

pub name_pat : (a b : Option Token) (t : Token) → pat_nesting (pat.Name a b t) ≡ 1
name_pat a b t = at_pat (pat.Name a b t) (Pat-F.Name a b t) (pat.outs-Name a b t)

pub literal_pat : (n : Literal) → pat_nesting (pat.Literal n) ≡ 1
literal_pat n = at_pat (pat.Literal n) (Pat-F.Literal n) (pat.outs-Literal n)

pub range_pat : (n : Literal) (dots : Token) (m : Literal) → pat_nesting (pat.Range n dots m) ≡ 1
range_pat n dots m = at_pat (pat.Range n dots m) (Pat-F.Range n dots m) (pat.outs-Range n dots m)

pub path_pat : (y : Path) → pat_nesting (pat.Path y) ≡ suc (path_nesting y)
path_pat y = at_pat (pat.Path y) (Pat-F.Path y) (pat.outs-Path y)

pub tuple_pat : (y : Path) (o : Token) (xs : List (Listed Pat)) (c : Token) → pat_nesting (pat.Tuple y o xs c) ≡ suc (max (path_nesting y) (greatest (λ l. pat_nesting l.item) xs))
tuple_pat y o xs c = at_pat (pat.Tuple y o xs c) (Pat-F.Tuple y o xs c) (pat.outs-Tuple y o xs c) ∙ ap (λ r. suc (max (path_nesting y) r)) (greatest_map (λ l. l.item) _ xs)

pub struct_pat : (y : Path) (o : Token) (xs : List (Listed (FieldPat Pat))) (rest : Option Token) (c : Token) → pat_nesting (pat.Struct y o xs rest c) ≡ suc (max (path_nesting y) (greatest (λ l. field_nesting l.item) xs))
struct_pat y o xs rest c =
    at_pat (pat.Struct y o xs rest c) (Pat-F.Struct y o xs rest c) (pat.outs-Struct y o xs rest c)
    ∙ ap (λ r. suc (max (path_nesting y) r)) (greatest_map (λ l. field_depth l.item) _ xs ∙ greatest_alike _ (λ l. field_nesting l.item) (λ l. field_alike l.item l.comma) xs)

pub pat_group : (g : Group) (y : Pat) → pat_nesting (pat.Group g y) ≡ pat_nesting y
pat_group g y = at_pat (pat.Group g y) (Pat-F.Group g y) (pat.outs-Group g y)

pub alternatives : (xs : List Alternative) → top_nesting (top.Alternatives xs) ≡ greatest (λ a. pat_nesting a.pat) xs
alternatives xs = at_top (top.Alternatives xs) (TopPat-F.Alternatives xs) (top.outs-Alternatives xs)

pub top_group : (g : Group) (y : TopPat) → top_nesting (top.Group g y) ≡ top_nesting y
top_group g y = at_top (top.Group g y) (TopPat-F.Group g y) (top.outs-Group g y)
