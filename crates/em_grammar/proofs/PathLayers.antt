-- The pieces of paths and types, one layer at a time.
use Rattle.std.proofs.Common.{◌≡◌, List, [], ◌∷◌, ◌++◌, Option, refl, sym, ap, ◌∙◌, map}
use Rattle.em_base.specs.declared.token.Token.{Token}
use Rattle.em_tree.specs.declared.parts.Listed.{Listed}
use Rattle.em_tree.specs.declared.piece.Piece.{Piece}
use Rattle.em_tree.specs.declared.piece.Group.{Group}
use Rattle.em_tree.specs.declared.literal.Literal.{Literal}
use Rattle.em_tree.specs.declared.types.Segments.{Segments}
use Rattle.em_tree.specs.declared.types.Path.{Path, out-Path, fold_out-Path, map-Path}
use Rattle.em_tree.specs.declared.types.Bound.TheViews.{roll-Path, roll-out-Path}
use Rattle.em_tree.specs.declared.types.Path.TheVariants as path
use Rattle.em_tree.specs.declared.types.Qualified.{Qualified, out-Qualified, fold_out-Qualified, map-Qualified}
use Rattle.em_tree.specs.declared.types.Bound.TheViews.{roll-Qualified, out-roll-Qualified, roll-out-Qualified}
use Rattle.em_tree.specs.declared.types.Output.{Output, out-Output, fold_out-Output, map-Output}
use Rattle.em_tree.specs.declared.types.Bound.TheViews.{roll-Output, roll-out-Output}
use Rattle.em_tree.specs.declared.types.Output.TheVariants as output
use Rattle.em_tree.specs.declared.types.Bound.{Bound, out-Bound, fold_out-Bound, map-Bound}
use Rattle.em_tree.specs.declared.types.Bound.TheViews.{roll-Bound, roll-out-Bound}
use Rattle.em_tree.specs.declared.types.Bound.TheVariants as bound
use Rattle.em_tree.specs.declared.types.TypeTree.{TypeTree, out-TypeTree, fold_out-TypeTree, map-TypeTree}
use Rattle.em_tree.specs.declared.types.Bound.TheViews.{roll-TypeTree, roll-out-TypeTree}
use Rattle.em_tree.specs.declared.types.TypeTree.TheVariants as ty
use Rattle.em_tree.specs.declared.types.Bound.TheOpen.{Bound-F, Output-F, Path-F, TypeTree-F, Qualified-F}
use Rattle.em_tree.specs.Parts.{same, maybe, each, listed_parts, segments_parts, path_parts, qualified_parts, output_parts, bound_parts, type_tree_parts, bound_step, output_step, path_step, type_tree_step, qualified_step}
use Rattle.em_tree.specs.Starts.{Pieces}
use Rattle.em_tree.specs.Yields.{piece, whole, as_it_is}
use Rattle.em_tree.specs.PathGrammar.{literal_pieces, path_pieces, type_pieces}
use Rattle.em_grammar.specs.Lang.{with_comma}

abbrev pub bound_pieces : Bound → Pieces
bound_pieces x = bound_parts piece whole as_it_is x

abbrev pub output_pieces : Output → Pieces
output_pieces x = output_parts piece whole as_it_is x

abbrev pub qualified_pieces : Qualified → Pieces
qualified_pieces x = qualified_parts piece whole as_it_is x

at_bound : (x : Bound) (l : Bound-F Bound Output Path TypeTree Qualified) → out-Bound x ≡ l
    → bound_pieces x ≡ bound_step piece whole as_it_is (map-Bound Bound Output Path TypeTree Qualified (List Piece) (List Piece) (List Piece) (List Piece) (List Piece) bound_pieces output_pieces path_pieces type_pieces qualified_pieces l)
unfolding bound_parts output_parts path_parts type_tree_parts qualified_parts
at_bound x l is =
    fold_out-Bound (List Piece) (List Piece) (List Piece) (List Piece) (List Piece) (bound_step piece whole as_it_is) (output_step piece whole as_it_is) (path_step piece whole as_it_is) (type_tree_step piece whole as_it_is) (qualified_step piece whole as_it_is) x
    ∙ ap (λ k. bound_step piece whole as_it_is (map-Bound Bound Output Path TypeTree Qualified (List Piece) (List Piece) (List Piece) (List Piece) (List Piece) bound_pieces output_pieces path_pieces type_pieces qualified_pieces k)) is

at_output : (x : Output) (l : Output-F Bound Output Path TypeTree Qualified) → out-Output x ≡ l
    → output_pieces x ≡ output_step piece whole as_it_is (map-Output Bound Output Path TypeTree Qualified (List Piece) (List Piece) (List Piece) (List Piece) (List Piece) bound_pieces output_pieces path_pieces type_pieces qualified_pieces l)
unfolding bound_parts output_parts path_parts type_tree_parts qualified_parts
at_output x l is =
    fold_out-Output (List Piece) (List Piece) (List Piece) (List Piece) (List Piece) (bound_step piece whole as_it_is) (output_step piece whole as_it_is) (path_step piece whole as_it_is) (type_tree_step piece whole as_it_is) (qualified_step piece whole as_it_is) x
    ∙ ap (λ k. output_step piece whole as_it_is (map-Output Bound Output Path TypeTree Qualified (List Piece) (List Piece) (List Piece) (List Piece) (List Piece) bound_pieces output_pieces path_pieces type_pieces qualified_pieces k)) is

at_path : (x : Path) (l : Path-F Bound Output Path TypeTree Qualified) → out-Path x ≡ l
    → path_pieces x ≡ path_step piece whole as_it_is (map-Path Bound Output Path TypeTree Qualified (List Piece) (List Piece) (List Piece) (List Piece) (List Piece) bound_pieces output_pieces path_pieces type_pieces qualified_pieces l)
unfolding bound_parts output_parts path_parts type_tree_parts qualified_parts
at_path x l is =
    fold_out-Path (List Piece) (List Piece) (List Piece) (List Piece) (List Piece) (bound_step piece whole as_it_is) (output_step piece whole as_it_is) (path_step piece whole as_it_is) (type_tree_step piece whole as_it_is) (qualified_step piece whole as_it_is) x
    ∙ ap (λ k. path_step piece whole as_it_is (map-Path Bound Output Path TypeTree Qualified (List Piece) (List Piece) (List Piece) (List Piece) (List Piece) bound_pieces output_pieces path_pieces type_pieces qualified_pieces k)) is

at_type : (x : TypeTree) (l : TypeTree-F Bound Output Path TypeTree Qualified) → out-TypeTree x ≡ l
    → type_pieces x ≡ type_tree_step piece whole as_it_is (map-TypeTree Bound Output Path TypeTree Qualified (List Piece) (List Piece) (List Piece) (List Piece) (List Piece) bound_pieces output_pieces path_pieces type_pieces qualified_pieces l)
unfolding bound_parts output_parts path_parts type_tree_parts qualified_parts
at_type x l is =
    fold_out-TypeTree (List Piece) (List Piece) (List Piece) (List Piece) (List Piece) (bound_step piece whole as_it_is) (output_step piece whole as_it_is) (path_step piece whole as_it_is) (type_tree_step piece whole as_it_is) (qualified_step piece whole as_it_is) x
    ∙ ap (λ k. type_tree_step piece whole as_it_is (map-TypeTree Bound Output Path TypeTree Qualified (List Piece) (List Piece) (List Piece) (List Piece) (List Piece) bound_pieces output_pieces path_pieces type_pieces qualified_pieces k)) is

pub at_qualified : (x : Qualified) (l : Qualified-F Bound Output Path TypeTree Qualified) → out-Qualified x ≡ l
    → qualified_pieces x ≡ qualified_step piece whole as_it_is (map-Qualified Bound Output Path TypeTree Qualified (List Piece) (List Piece) (List Piece) (List Piece) (List Piece) bound_pieces output_pieces path_pieces type_pieces qualified_pieces l)
unfolding bound_parts output_parts path_parts type_tree_parts qualified_parts
at_qualified x l is =
    fold_out-Qualified (List Piece) (List Piece) (List Piece) (List Piece) (List Piece) (bound_step piece whole as_it_is) (output_step piece whole as_it_is) (path_step piece whole as_it_is) (type_tree_step piece whole as_it_is) (qualified_step piece whole as_it_is) x
    ∙ ap (λ k. qualified_step piece whole as_it_is (map-Qualified Bound Output Path TypeTree Qualified (List Piece) (List Piece) (List Piece) (List Piece) (List Piece) bound_pieces output_pieces path_pieces type_pieces qualified_pieces k)) is

-- ---- a tree is told by its layer

pub same_path : (x y : Path) → out-Path x ≡ out-Path y → x ≡ y
same_path x y is = sym (roll-out-Path x) ∙ ap (λ l. roll-Path l) is ∙ roll-out-Path y

pub same_qualified : (x : Qualified) (l : Qualified-F Bound Output Path TypeTree Qualified) → out-Qualified x ≡ l → x ≡ roll-Qualified l
same_qualified x l is = sym (roll-out-Qualified x) ∙ ap (λ l. roll-Qualified l) is

pub same_output : (x y : Output) → out-Output x ≡ out-Output y → x ≡ y
same_output x y is = sym (roll-out-Output x) ∙ ap (λ l. roll-Output l) is ∙ roll-out-Output y

pub same_bound : (x y : Bound) → out-Bound x ≡ out-Bound y → x ≡ y
same_bound x y is = sym (roll-out-Bound x) ∙ ap (λ l. roll-Bound l) is ∙ roll-out-Bound y

pub same_type : (x y : TypeTree) → out-TypeTree x ≡ out-TypeTree y → x ≡ y
same_type x y is = sym (roll-out-TypeTree x) ∙ ap (λ l. roll-TypeTree l) is ∙ roll-out-TypeTree y

-- ---- paths

pub pieces_plain : (s : Segments) → path_pieces (path.Plain s) ≡ segments_parts piece whole as_it_is s
pieces_plain s = at_path (path.Plain s) (Path-F.Plain s) (path.outs-Plain s)

pub pieces_qualified : (q : Qualified) → path_pieces (path.Qualified q) ≡ qualified_pieces q
pieces_qualified q = at_path (path.Qualified q) (Path-F.Qualified q) (path.outs-Qualified q)

pub pieces_path_group : (g : Group) (x : Path) → path_pieces (path.Group g x) ≡ whole g (path_pieces x)
pieces_path_group g x = at_path (path.Group g x) (Path-F.Path::Group g x) (path.outs-Group g x)

pub pieces_of_qualified : (l : Qualified-F Bound Output Path TypeTree Qualified) → qualified_pieces (roll-Qualified l)
    ≡ piece l.open ++ (type_pieces l.self_type ++ (piece l.word ++ (path_pieces l.of_trait ++ (piece l.close ++ (piece l.separator ++ piece l.name)))))
pieces_of_qualified l = at_qualified (roll-Qualified l) l (out-roll-Qualified l)

-- ---- bounds

pub pieces_no_output : output_pieces output.Unit ≡ []
pieces_no_output = at_output output.Unit Output-F.Output::Unit output.outs-Unit

pub pieces_output : (arrow : Token) (x : TypeTree) → output_pieces (output.Type arrow x) ≡ piece arrow ++ type_pieces x
pieces_output arrow x = at_output (output.Type arrow x) (Output-F.Type arrow x) (output.outs-Type arrow x)

pub pieces_path_bound : (x : Path) → bound_pieces (bound.Path x) ≡ path_pieces x
pieces_path_bound x = at_bound (bound.Path x) (Bound-F.Bound::Path x) (bound.outs-Path x)

each_map : {A B C : Type 0} (f : B → List A) (k : C → B) (xs : List C) → each f (map k xs) ≡ each (λ x. f (k x)) xs
each_map f k [] = refl
each_map f k (x ∷ xs) = ap (λ r. f (k x) ++ r) (each_map f k xs)

pub pieces_call : (x : Path) (opening : Token) (inputs : List (Listed TypeTree)) (closing : Token) (out : Output) → bound_pieces (bound.Call x opening inputs closing out)
    ≡ path_pieces x ++ (piece opening ++ (each (with_comma type_pieces) inputs ++ (piece closing ++ output_pieces out)))
pieces_call x opening inputs closing out =
    at_bound (bound.Call x opening inputs closing out) (Bound-F.Call x opening inputs closing out) (bound.outs-Call x opening inputs closing out)
    ∙ ap (λ r. path_pieces x ++ (piece opening ++ (r ++ (piece closing ++ output_pieces out)))) (each_map (listed_parts piece whole as_it_is same) _ inputs)

-- ---- types

pub pieces_path_type : (x : Path) → type_pieces (ty.Path x) ≡ path_pieces x
pieces_path_type x = at_type (ty.Path x) (TypeTree-F.TypeTree::Path x) (ty.outs-Path x)

pub pieces_boxed : (word opening : Token) (x : TypeTree) (closing : Option Token) → type_pieces (ty.Boxed word opening x closing) ≡ piece word ++ (piece opening ++ (type_pieces x ++ maybe piece closing))
pieces_boxed word opening x closing = at_type (ty.Boxed word opening x closing) (TypeTree-F.Boxed word opening x closing) (ty.outs-Boxed word opening x closing)

pub pieces_ref : (amp : Token) (word_mut : Option Token) (x : TypeTree) → type_pieces (ty.Ref amp word_mut x) ≡ piece amp ++ (maybe piece word_mut ++ type_pieces x)
pieces_ref amp word_mut x = at_type (ty.Ref amp word_mut x) (TypeTree-F.Ref amp word_mut x) (ty.outs-Ref amp word_mut x)

pub pieces_ref_ref : (amps : Token) (word_mut : Option Token) (x : TypeTree) → type_pieces (ty.RefRef amps word_mut x) ≡ piece amps ++ (maybe piece word_mut ++ type_pieces x)
pieces_ref_ref amps word_mut x = at_type (ty.RefRef amps word_mut x) (TypeTree-F.RefRef amps word_mut x) (ty.outs-RefRef amps word_mut x)

pub pieces_array : (opening : Token) (x : TypeTree) (semi : Token) (length : Literal) (closing : Token) → type_pieces (ty.Array opening x semi length closing)
    ≡ piece opening ++ (type_pieces x ++ (piece semi ++ (literal_pieces length ++ piece closing)))
pieces_array opening x semi length closing = at_type (ty.Array opening x semi length closing) (TypeTree-F.Array opening x semi length closing) (ty.outs-Array opening x semi length closing)

pub pieces_slice : (opening : Token) (x : TypeTree) (closing : Token) → type_pieces (ty.Slice opening x closing) ≡ piece opening ++ (type_pieces x ++ piece closing)
pieces_slice opening x closing = at_type (ty.Slice opening x closing) (TypeTree-F.Slice opening x closing) (ty.outs-Slice opening x closing)

pub pieces_unit : (opening closing : Token) → type_pieces (ty.Unit opening closing) ≡ piece opening ++ piece closing
pieces_unit opening closing = at_type (ty.Unit opening closing) (TypeTree-F.TypeTree::Unit opening closing) (ty.outs-Unit opening closing)

pub pieces_dyn : (word : Token) (b : Bound) → type_pieces (ty.Dyn word b) ≡ piece word ++ bound_pieces b
pieces_dyn word b = at_type (ty.Dyn word b) (TypeTree-F.Dyn word b) (ty.outs-Dyn word b)

pub pieces_bare : (b : Bound) → type_pieces (ty.Bare b) ≡ bound_pieces b
pieces_bare b = at_type (ty.Bare b) (TypeTree-F.Bare b) (ty.outs-Bare b)

pub pieces_type_group : (g : Group) (x : TypeTree) → type_pieces (ty.Group g x) ≡ whole g (type_pieces x)
pieces_type_group g x = at_type (ty.Group g x) (TypeTree-F.TypeTree::Group g x) (ty.outs-Group g x)
