-- How deep paths and types nest, one layer.
use Rattle.std.proofs.Common.{◌≡◌, ℕ, suc, List, [], ◌∷◌, Option, refl, ◌∙◌, ap, map, max}
use Rattle.em_base.specs.declared.token.Token.{Token}
use Rattle.em_tree.specs.declared.parts.Listed.{Listed}
use Rattle.em_tree.specs.declared.piece.Group.{Group}
use Rattle.em_tree.specs.declared.literal.Literal.{Literal}
use Rattle.em_tree.specs.declared.types.Segments.{Segments}
use Rattle.em_tree.specs.declared.types.Path.{Path, out-Path, fold_out-Path, map-Path}
use Rattle.em_tree.specs.declared.types.Path.TheVariants as path
use Rattle.em_tree.specs.declared.types.Qualified.{Qualified, out-Qualified, fold_out-Qualified, map-Qualified}
use Rattle.em_tree.specs.declared.types.Output.{Output, out-Output, fold_out-Output, map-Output}
use Rattle.em_tree.specs.declared.types.Output.TheVariants as output
use Rattle.em_tree.specs.declared.types.Bound.{Bound, out-Bound, fold_out-Bound, map-Bound}
use Rattle.em_tree.specs.declared.types.Bound.TheVariants as bound
use Rattle.em_tree.specs.declared.types.TypeTree.{TypeTree, out-TypeTree, fold_out-TypeTree, map-TypeTree}
use Rattle.em_tree.specs.declared.types.TypeTree.TheVariants as ty
use Rattle.em_tree.specs.declared.types.Bound.TheOpen.{Bound-F, Output-F, Path-F, TypeTree-F, Qualified-F}
use Rattle.em_tree.specs.Nesting.{greatest, bound_depth, output_depth, path_depth, type_depth, qualified_depth, path_nesting, output_nesting, bound_nesting, qualified_nesting, type_nesting}

pub greatest_map : {A B : Type 0} (f : B → ℕ) (k : A → B) (xs : List A) → greatest f (map k xs) ≡ greatest (λ x. f (k x)) xs
greatest_map f k [] = refl
greatest_map f k (x ∷ xs) = ap (λ r. max (f (k x)) r) (greatest_map f k xs)

at_bound : (x : Bound) (l : Bound-F Bound Output Path TypeTree Qualified) → out-Bound x ≡ l
    → bound_nesting x ≡ bound_depth (map-Bound Bound Output Path TypeTree Qualified ℕ ℕ ℕ ℕ ℕ bound_nesting output_nesting path_nesting type_nesting qualified_nesting l)
unfolding bound_nesting output_nesting path_nesting type_nesting qualified_nesting
at_bound x l is =
    fold_out-Bound ℕ ℕ ℕ ℕ ℕ bound_depth output_depth path_depth type_depth qualified_depth x
    ∙ ap (λ k. bound_depth (map-Bound Bound Output Path TypeTree Qualified ℕ ℕ ℕ ℕ ℕ bound_nesting output_nesting path_nesting type_nesting qualified_nesting k)) is

at_output : (x : Output) (l : Output-F Bound Output Path TypeTree Qualified) → out-Output x ≡ l
    → output_nesting x ≡ output_depth (map-Output Bound Output Path TypeTree Qualified ℕ ℕ ℕ ℕ ℕ bound_nesting output_nesting path_nesting type_nesting qualified_nesting l)
unfolding bound_nesting output_nesting path_nesting type_nesting qualified_nesting
at_output x l is =
    fold_out-Output ℕ ℕ ℕ ℕ ℕ bound_depth output_depth path_depth type_depth qualified_depth x
    ∙ ap (λ k. output_depth (map-Output Bound Output Path TypeTree Qualified ℕ ℕ ℕ ℕ ℕ bound_nesting output_nesting path_nesting type_nesting qualified_nesting k)) is

at_path : (x : Path) (l : Path-F Bound Output Path TypeTree Qualified) → out-Path x ≡ l
    → path_nesting x ≡ path_depth (map-Path Bound Output Path TypeTree Qualified ℕ ℕ ℕ ℕ ℕ bound_nesting output_nesting path_nesting type_nesting qualified_nesting l)
unfolding bound_nesting output_nesting path_nesting type_nesting qualified_nesting
at_path x l is =
    fold_out-Path ℕ ℕ ℕ ℕ ℕ bound_depth output_depth path_depth type_depth qualified_depth x
    ∙ ap (λ k. path_depth (map-Path Bound Output Path TypeTree Qualified ℕ ℕ ℕ ℕ ℕ bound_nesting output_nesting path_nesting type_nesting qualified_nesting k)) is

at_type : (x : TypeTree) (l : TypeTree-F Bound Output Path TypeTree Qualified) → out-TypeTree x ≡ l
    → type_nesting x ≡ type_depth (map-TypeTree Bound Output Path TypeTree Qualified ℕ ℕ ℕ ℕ ℕ bound_nesting output_nesting path_nesting type_nesting qualified_nesting l)
unfolding bound_nesting output_nesting path_nesting type_nesting qualified_nesting
at_type x l is =
    fold_out-TypeTree ℕ ℕ ℕ ℕ ℕ bound_depth output_depth path_depth type_depth qualified_depth x
    ∙ ap (λ k. type_depth (map-TypeTree Bound Output Path TypeTree Qualified ℕ ℕ ℕ ℕ ℕ bound_nesting output_nesting path_nesting type_nesting qualified_nesting k)) is

at_qualified : (x : Qualified) (l : Qualified-F Bound Output Path TypeTree Qualified) → out-Qualified x ≡ l
    → qualified_nesting x ≡ qualified_depth (map-Qualified Bound Output Path TypeTree Qualified ℕ ℕ ℕ ℕ ℕ bound_nesting output_nesting path_nesting type_nesting qualified_nesting l)
unfolding bound_nesting output_nesting path_nesting type_nesting qualified_nesting
at_qualified x l is =
    fold_out-Qualified ℕ ℕ ℕ ℕ ℕ bound_depth output_depth path_depth type_depth qualified_depth x
    ∙ ap (λ k. qualified_depth (map-Qualified Bound Output Path TypeTree Qualified ℕ ℕ ℕ ℕ ℕ bound_nesting output_nesting path_nesting type_nesting qualified_nesting k)) is

pub plain_path : (s : Segments) → path_nesting (path.Plain s) ≡ 0
plain_path s = at_path (path.Plain s) (Path-F.Plain s) (path.outs-Plain s)

pub qualified_path : (q : Qualified) → path_nesting (path.Qualified q) ≡ qualified_nesting q
qualified_path q = at_path (path.Qualified q) (Path-F.Qualified q) (path.outs-Qualified q)

pub path_group : (g : Group) (y : Path) → path_nesting (path.Group g y) ≡ path_nesting y
path_group g y = at_path (path.Group g y) (Path-F.Path::Group g y) (path.outs-Group g y)

pub qualified : (q : Qualified) → qualified_nesting q ≡ max (type_nesting (out-Qualified q).self_type) (path_nesting (out-Qualified q).of_trait)
qualified q = at_qualified q (out-Qualified q) refl

pub no_output : output_nesting output.Unit ≡ 0
no_output = at_output output.Unit Output-F.Output::Unit output.outs-Unit

pub typed_output : (arrow : Token) (y : TypeTree) → output_nesting (output.Type arrow y) ≡ type_nesting y
typed_output arrow y = at_output (output.Type arrow y) (Output-F.Type arrow y) (output.outs-Type arrow y)

pub path_bound : (y : Path) → bound_nesting (bound.Path y) ≡ path_nesting y
path_bound y = at_bound (bound.Path y) (Bound-F.Bound::Path y) (bound.outs-Path y)

pub call_bound : (y : Path) (o : Token) (xs : List (Listed TypeTree)) (c : Token) (out : Output)
    → bound_nesting (bound.Call y o xs c out) ≡ max (path_nesting y) (max (greatest (λ l. type_nesting l.item) xs) (output_nesting out))
call_bound y o xs c out =
    at_bound (bound.Call y o xs c out) (Bound-F.Call y o xs c out) (bound.outs-Call y o xs c out)
    ∙ ap (λ r. max (path_nesting y) (max r (output_nesting out))) (greatest_map (λ l. l.item) _ xs)

pub path_type : (y : Path) → type_nesting (ty.Path y) ≡ suc (path_nesting y)
path_type y = at_type (ty.Path y) (TypeTree-F.TypeTree::Path y) (ty.outs-Path y)

pub boxed_type : (word o : Token) (y : TypeTree) (c : Option Token) → type_nesting (ty.Boxed word o y c) ≡ suc (type_nesting y)
boxed_type word o y c = at_type (ty.Boxed word o y c) (TypeTree-F.Boxed word o y c) (ty.outs-Boxed word o y c)

pub ref_type : (amp : Token) (word : Option Token) (y : TypeTree) → type_nesting (ty.Ref amp word y) ≡ suc (type_nesting y)
ref_type amp word y = at_type (ty.Ref amp word y) (TypeTree-F.Ref amp word y) (ty.outs-Ref amp word y)

pub ref_ref_type : (amps : Token) (word : Option Token) (y : TypeTree) → type_nesting (ty.RefRef amps word y) ≡ suc (suc (type_nesting y))
ref_ref_type amps word y = at_type (ty.RefRef amps word y) (TypeTree-F.RefRef amps word y) (ty.outs-RefRef amps word y)

pub array_type : (o : Token) (y : TypeTree) (semi : Token) (n : Literal) (c : Token) → type_nesting (ty.Array o y semi n c) ≡ suc (type_nesting y)
array_type o y semi n c = at_type (ty.Array o y semi n c) (TypeTree-F.Array o y semi n c) (ty.outs-Array o y semi n c)

pub slice_type : (o : Token) (y : TypeTree) (c : Token) → type_nesting (ty.Slice o y c) ≡ suc (type_nesting y)
slice_type o y c = at_type (ty.Slice o y c) (TypeTree-F.Slice o y c) (ty.outs-Slice o y c)

pub unit_type : (o c : Token) → type_nesting (ty.Unit o c) ≡ 1
unit_type o c = at_type (ty.Unit o c) (TypeTree-F.TypeTree::Unit o c) (ty.outs-Unit o c)

pub dyn_type : (word : Token) (y : Bound) → type_nesting (ty.Dyn word y) ≡ suc (bound_nesting y)
dyn_type word y = at_type (ty.Dyn word y) (TypeTree-F.Dyn word y) (ty.outs-Dyn word y)

pub bare_type : (y : Bound) → type_nesting (ty.Bare y) ≡ suc (bound_nesting y)
bare_type y = at_type (ty.Bare y) (TypeTree-F.Bare y) (ty.outs-Bare y)

pub type_group : (g : Group) (y : TypeTree) → type_nesting (ty.Group g y) ≡ type_nesting y
type_group g y = at_type (ty.Group g y) (TypeTree-F.TypeTree::Group g y) (ty.outs-Group g y)
