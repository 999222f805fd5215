-- The tokens that are put for one node, part by part.
use Rattle.std.proofs.Common.{◌≡◌, List, [], ◌∷◌, ◌++◌, Option, refl, sym, ap, ◌∙◌}
use Rattle.em_base.specs.declared.token.Token.{Token}
use Rattle.em_tree.specs.declared.parts.Listed.{Listed}
use Rattle.em_tree.specs.declared.piece.Group.{Group}
use Rattle.em_tree.specs.declared.literal.Literal.{Literal}
use Rattle.em_tree.specs.declared.literal.Literal.TheVariants as literal
use Rattle.em_tree.specs.declared.types.Segments.{Segments}
use Rattle.em_tree.specs.declared.types.Path.{Path}
use Rattle.em_tree.specs.declared.types.Path.TheVariants as path
use Rattle.em_tree.specs.declared.types.Qualified.{Qualified, out-Qualified}
use Rattle.em_tree.specs.declared.types.Output.{Output}
use Rattle.em_tree.specs.declared.types.Output.TheVariants as output
use Rattle.em_tree.specs.declared.types.Bound.{Bound}
use Rattle.em_tree.specs.declared.types.Bound.TheVariants as bound
use Rattle.em_tree.specs.declared.types.TypeTree.{TypeTree}
use Rattle.em_tree.specs.declared.types.TypeTree.TheVariants as type_tree
use Rattle.em_tree.specs.declared.pat.FieldPat.{FieldPat}
use Rattle.em_tree.specs.declared.pat.Pat.{Pat}
use Rattle.em_tree.specs.declared.pat.Pat.TheVariants as pat
use Rattle.em_tree.specs.declared.pat.Alternative.{Alternative}
use Rattle.em_tree.specs.declared.pat.TopPat.{TopPat}
use Rattle.em_tree.specs.declared.pat.TopPat.TheVariants as top_pat
use Rattle.em_tree.specs.Parts.{maybe, each, leaves, listed_parts, literal_parts, segments_parts, path_parts, qualified_parts, output_parts, bound_parts, type_tree_parts, field_pat_parts, pat_parts, alternative_parts, top_pat_parts}
use Rattle.em_tree.specs.Yields.{one, inside, opened}
use Rattle.em_tree.proofs.Join.{put0, put2, put3, put4, put5, put7}
use Rattle.em_tree.proofs.Layers.{at-Literal-Token, at-Literal-Negative, at-Literal-Group, at-Bound-Path, at-Bound-Call, at-Output-Unit, at-Output-Type, at-Path-Plain, at-Path-Qualified, at-Path-Group, at-TypeTree-Path, at-TypeTree-Boxed, at-TypeTree-Ref, at-TypeTree-RefRef, at-TypeTree-Array, at-TypeTree-Slice, at-TypeTree-Unit, at-TypeTree-Dyn, at-TypeTree-Bare, at-TypeTree-Group, at-Qualified, at-Pat-Wild, at-Pat-Name, at-Pat-Literal, at-Pat-Range, at-Pat-Path, at-Pat-Tuple, at-Pat-Struct, at-Pat-Group, at-TopPat-Alternatives, at-TopPat-Group}

pub leaves_inside : (gs : List Group) (ts : List Token) → leaves one inside opened gs ts ≡ ts
leaves_inside [] ts = refl
leaves_inside (g ∷ gs) ts = leaves_inside gs ts

pub puts_literal_token : (old new : List Token) (x : Literal) (x0 : Token) → x ≡ literal.Token x0 → new ≡ old ++ one x0 → new ≡ old ++ literal_parts one inside opened x
puts_literal_token old new x x0 is e0 = e0 ∙ ap (λ r. old ++ r) (sym (at-Literal-Token one inside opened x x0 is))

pub puts_literal_negative : (old a new : List Token) (x : Literal) (minus : Token) (value : Literal) → x ≡ literal.Negative minus value → a ≡ old ++ one minus → new ≡ a ++ literal_parts one inside opened value → new ≡ old ++ literal_parts one inside opened x
puts_literal_negative old a new x minus value is e0 e1 = put2 old (one minus) (literal_parts one inside opened value) a new e0 e1 ∙ ap (λ r. old ++ r) (sym (at-Literal-Negative one inside opened x minus value is))

pub puts_literal_group : (old new : List Token) (x : Literal) (group : Group) (inner : Literal) → x ≡ literal.Group group inner → new ≡ old ++ literal_parts one inside opened inner → new ≡ old ++ literal_parts one inside opened x
puts_literal_group old new x group inner is e0 = e0 ∙ ap (λ r. old ++ r) (sym (at-Literal-Group one inside opened x group inner is))

pub puts_bound_path : (old new : List Token) (x : Bound) (x0 : Path) → x ≡ bound.Path x0 → new ≡ old ++ path_parts one inside opened x0 → new ≡ old ++ bound_parts one inside opened x
puts_bound_path old new x x0 is e0 = e0 ∙ ap (λ r. old ++ r) (sym (at-Bound-Path one inside opened x x0 is))

pub puts_bound_call : (old a b d e new : List Token) (x : Bound) (path : Path) (opening : Token) (inputs : List (Listed TypeTree)) (closing : Token) (output : Output) → x ≡ bound.Call path opening inputs closing output → a ≡ old ++ path_parts one inside opened path → b ≡ a ++ one opening → d ≡ b ++ each (listed_parts one inside opened (type_tree_parts one inside opened)) inputs → e ≡ d ++ one closing → new ≡ e ++ output_parts one inside opened output → new ≡ old ++ bound_parts one inside opened x
puts_bound_call old a b d e new x path opening inputs closing output is e0 e1 e2 e3 e4 = put5 old (path_parts one inside opened path) (one opening) (each (listed_parts one inside opened (type_tree_parts one inside opened)) inputs) (one closing) (output_parts one inside opened output) a b d e new e0 e1 e2 e3 e4 ∙ ap (λ r. old ++ r) (sym (at-Bound-Call one inside opened x path opening inputs closing output is))

pub puts_output_unit : (old : List Token) (x : Output) → x ≡ output.Unit → old ≡ old ++ output_parts one inside opened x
puts_output_unit old x is = put0 old ∙ ap (λ r. old ++ r) (sym (at-Output-Unit one inside opened x is))

pub puts_output_type : (old a new : List Token) (x : Output) (arrow : Token) (ty : TypeTree) → x ≡ output.Type arrow ty → a ≡ old ++ one arrow → new ≡ a ++ type_tree_parts one inside opened ty → new ≡ old ++ output_parts one inside opened x
puts_output_type old a new x arrow ty is e0 e1 = put2 old (one arrow) (type_tree_parts one inside opened ty) a new e0 e1 ∙ ap (λ r. old ++ r) (sym (at-Output-Type one inside opened x arrow ty is))

pub puts_path_plain : (old new : List Token) (x : Path) (x0 : Segments) → x ≡ path.Plain x0 → new ≡ old ++ segments_parts one inside opened x0 → new ≡ old ++ path_parts one inside opened x
puts_path_plain old new x x0 is e0 = e0 ∙ ap (λ r. old ++ r) (sym (at-Path-Plain one inside opened x x0 is))

pub puts_path_qualified : (old new : List Token) (x : Path) (x0 : Qualified) → x ≡ path.Qualified x0 → new ≡ old ++ qualified_parts one inside opened x0 → new ≡ old ++ path_parts one inside opened x
puts_path_qualified old new x x0 is e0 = e0 ∙ ap (λ r. old ++ r) (sym (at-Path-Qualified one inside opened x x0 is))

pub puts_path_group : (old new : List Token) (x : Path) (group : Group) (inner : Path) → x ≡ path.Group group inner → new ≡ old ++ path_parts one inside opened inner → new ≡ old ++ path_parts one inside opened x
puts_path_group old new x group inner is e0 = e0 ∙ ap (λ r. old ++ r) (sym (at-Path-Group one inside opened x group inner is))

pub puts_type_tree_path : (old new : List Token) (x : TypeTree) (x0 : Path) → x ≡ type_tree.Path x0 → new ≡ old ++ path_parts one inside opened x0 → new ≡ old ++ type_tree_parts one inside opened x
puts_type_tree_path old new x x0 is e0 = e0 ∙ ap (λ r. old ++ r) (sym (at-TypeTree-Path one inside opened x x0 is))

pub puts_type_tree_boxed : (old a b d new : List Token) (x : TypeTree) (word : Token) (opening : Token) (inner : TypeTree) (closing : Option Token) → x ≡ type_tree.Boxed word opening inner closing → a ≡ old ++ one word → b ≡ a ++ one opening → d ≡ b ++ type_tree_parts one inside opened inner → new ≡ d ++ maybe one closing → new ≡ old ++ type_tree_parts one inside opened x
puts_type_tree_boxed old a b d new x word opening inner closing is e0 e1 e2 e3 = put4 old (one word) (one opening) (type_tree_parts one inside opened inner) (maybe one closing) a b d new e0 e1 e2 e3 ∙ ap (λ r. old ++ r) (sym (at-TypeTree-Boxed one inside opened x word opening inner closing is))

pub puts_type_tree_ref : (old a b new : List Token) (x : TypeTree) (amp : Token) (word_mut : Option Token) (inner : TypeTree) → x ≡ type_tree.Ref amp word_mut inner → a ≡ old ++ one amp → b ≡ a ++ maybe one word_mut → new ≡ b ++ type_tree_parts one inside opened inner → new ≡ old ++ type_tree_parts one inside opened x
puts_type_tree_ref old a b new x amp word_mut inner is e0 e1 e2 = put3 old (one amp) (maybe one word_mut) (type_tree_parts one inside opened inner) a b new e0 e1 e2 ∙ ap (λ r. old ++ r) (sym (at-TypeTree-Ref one inside opened x amp word_mut inner is))

pub puts_type_tree_ref_ref : (old a b new : List Token) (x : TypeTree) (amps : Token) (word_mut : Option Token) (inner : TypeTree) → x ≡ type_tree.RefRef amps word_mut inner → a ≡ old ++ one amps → b ≡ a ++ maybe one word_mut → new ≡ b ++ type_tree_parts one inside opened inner → new ≡ old ++ type_tree_parts one inside opened x
puts_type_tree_ref_ref old a b new x amps word_mut inner is e0 e1 e2 = put3 old (one amps) (maybe one word_mut) (type_tree_parts one inside opened inner) a b new e0 e1 e2 ∙ ap (λ r. old ++ r) (sym (at-TypeTree-RefRef one inside opened x amps word_mut inner is))

pub puts_type_tree_array : (old a b d e new : List Token) (x : TypeTree) (opening : Token) (element : TypeTree) (semi : Token) (length : Literal) (closing : Token) → x ≡ type_tree.Array opening element semi length closing → a ≡ old ++ one opening → b ≡ a ++ type_tree_parts one inside opened element → d ≡ b ++ one semi → e ≡ d ++ literal_parts one inside opened length → new ≡ e ++ one closing → new ≡ old ++ type_tree_parts one inside opened x
puts_type_tree_array old a b d e new x opening element semi length closing is e0 e1 e2 e3 e4 = put5 old (one opening) (type_tree_parts one inside opened element) (one semi) (literal_parts one inside opened length) (one closing) a b d e new e0 e1 e2 e3 e4 ∙ ap (λ r. old ++ r) (sym (at-TypeTree-Array one inside opened x opening element semi length closing is))

pub puts_type_tree_slice : (old a b new : List Token) (x : TypeTree) (opening : Token) (element : TypeTree) (closing : Token) → x ≡ type_tree.Slice opening element closing → a ≡ old ++ one opening → b ≡ a ++ type_tree_parts one inside opened element → new ≡ b ++ one closing → new ≡ old ++ type_tree_parts one inside opened x
puts_type_tree_slice old a b new x opening element closing is e0 e1 e2 = put3 old (one opening) (type_tree_parts one inside opened element) (one closing) a b new e0 e1 e2 ∙ ap (λ r. old ++ r) (sym (at-TypeTree-Slice one inside opened x opening element closing is))

pub puts_type_tree_unit : (old a new : List Token) (x : TypeTree) (opening : Token) (closing : Token) → x ≡ type_tree.Unit opening closing → a ≡ old ++ one opening → new ≡ a ++ one closing → new ≡ old ++ type_tree_parts one inside opened x
puts_type_tree_unit old a new x opening closing is e0 e1 = put2 old (one opening) (one closing) a new e0 e1 ∙ ap (λ r. old ++ r) (sym (at-TypeTree-Unit one inside opened x opening closing is))

pub puts_type_tree_dyn : (old a new : List Token) (x : TypeTree) (word : Token) (bound : Bound) → x ≡ type_tree.Dyn word bound → a ≡ old ++ one word → new ≡ a ++ bound_parts one inside opened bound → new ≡ old ++ type_tree_parts one inside opened x
puts_type_tree_dyn old a new x word bound is e0 e1 = put2 old (one word) (bound_parts one inside opened bound) a new e0 e1 ∙ ap (λ r. old ++ r) (sym (at-TypeTree-Dyn one inside opened x word bound is))

pub puts_type_tree_bare : (old new : List Token) (x : TypeTree) (x0 : Bound) → x ≡ type_tree.Bare x0 → new ≡ old ++ bound_parts one inside opened x0 → new ≡ old ++ type_tree_parts one inside opened x
puts_type_tree_bare old new x x0 is e0 = e0 ∙ ap (λ r. old ++ r) (sym (at-TypeTree-Bare one inside opened x x0 is))

pub puts_type_tree_group : (old new : List Token) (x : TypeTree) (group : Group) (inner : TypeTree) → x ≡ type_tree.Group group inner → new ≡ old ++ type_tree_parts one inside opened inner → new ≡ old ++ type_tree_parts one inside opened x
puts_type_tree_group old new x group inner is e0 = e0 ∙ ap (λ r. old ++ r) (sym (at-TypeTree-Group one inside opened x group inner is))

pub puts_qualified : (old a b d e f g new : List Token) (x : Qualified) → a ≡ old ++ one (out-Qualified x).open → b ≡ a ++ type_tree_parts one inside opened (out-Qualified x).self_type → d ≡ b ++ one (out-Qualified x).word → e ≡ d ++ path_parts one inside opened (out-Qualified x).of_trait → f ≡ e ++ one (out-Qualified x).close → g ≡ f ++ one (out-Qualified x).separator → new ≡ g ++ one (out-Qualified x).name → new ≡ old ++ qualified_parts one inside opened x
puts_qualified old a b d e f g new x e0 e1 e2 e3 e4 e5 e6 = put7 old (one (out-Qualified x).open) (type_tree_parts one inside opened (out-Qualified x).self_type) (one (out-Qualified x).word) (path_parts one inside opened (out-Qualified x).of_trait) (one (out-Qualified x).close) (one (out-Qualified x).separator) (one (out-Qualified x).name) a b d e f g new e0 e1 e2 e3 e4 e5 e6 ∙ ap (λ r. old ++ r) (sym (at-Qualified one inside opened x))

pub puts_pat_wild : (old new : List Token) (x : Pat) (x0 : Token) → x ≡ pat.Wild x0 → new ≡ old ++ one x0 → new ≡ old ++ pat_parts one inside opened x
puts_pat_wild old new x x0 is e0 = e0 ∙ ap (λ r. old ++ r) (sym (at-Pat-Wild one inside opened x x0 is))

pub puts_pat_name : (old a b new : List Token) (x : Pat) (word_ref : Option Token) (word_mut : Option Token) (name : Token) → x ≡ pat.Name word_ref word_mut name → a ≡ old ++ maybe one word_ref → b ≡ a ++ maybe one word_mut → new ≡ b ++ one name → new ≡ old ++ pat_parts one inside opened x
puts_pat_name old a b new x word_ref word_mut name is e0 e1 e2 = put3 old (maybe one word_ref) (maybe one word_mut) (one name) a b new e0 e1 e2 ∙ ap (λ r. old ++ r) (sym (at-Pat-Name one inside opened x word_ref word_mut name is))

pub puts_pat_literal : (old new : List Token) (x : Pat) (x0 : Literal) → x ≡ pat.Literal x0 → new ≡ old ++ literal_parts one inside opened x0 → new ≡ old ++ pat_parts one inside opened x
puts_pat_literal old new x x0 is e0 = e0 ∙ ap (λ r. old ++ r) (sym (at-Pat-Literal one inside opened x x0 is))

pub puts_pat_range : (old a b new : List Token) (x : Pat) (start : Literal) (dots : Token) (end : Literal) → x ≡ pat.Range start dots end → a ≡ old ++ literal_parts one inside opened start → b ≡ a ++ one dots → new ≡ b ++ literal_parts one inside opened end → new ≡ old ++ pat_parts one inside opened x
puts_pat_range old a b new x start dots end is e0 e1 e2 = put3 old (literal_parts one inside opened start) (one dots) (literal_parts one inside opened end) a b new e0 e1 e2 ∙ ap (λ r. old ++ r) (sym (at-Pat-Range one inside opened x start dots end is))

pub puts_pat_path : (old new : List Token) (x : Pat) (x0 : Path) → x ≡ pat.Path x0 → new ≡ old ++ path_parts one inside opened x0 → new ≡ old ++ pat_parts one inside opened x
puts_pat_path old new x x0 is e0 = e0 ∙ ap (λ r. old ++ r) (sym (at-Pat-Path one inside opened x x0 is))

pub puts_pat_tuple : (old a b d new : List Token) (x : Pat) (path : Path) (opening : Token) (fields : List (Listed Pat)) (closing : Token) → x ≡ pat.Tuple path opening fields closing → a ≡ old ++ path_parts one inside opened path → b ≡ a ++ one opening → d ≡ b ++ each (listed_parts one inside opened (pat_parts one inside opened)) fields → new ≡ d ++ one closing → new ≡ old ++ pat_parts one inside opened x
puts_pat_tuple old a b d new x path opening fields closing is e0 e1 e2 e3 = put4 old (path_parts one inside opened path) (one opening) (each (listed_parts one inside opened (pat_parts one inside opened)) fields) (one closing) a b d new e0 e1 e2 e3 ∙ ap (λ r. old ++ r) (sym (at-Pat-Tuple one inside opened x path opening fields closing is))

pub puts_pat_struct : (old a b d e new : List Token) (x : Pat) (path : Path) (opening : Token) (fields : List (Listed (FieldPat Pat))) (rest : Option Token) (closing : Token) → x ≡ pat.Struct path opening fields rest closing → a ≡ old ++ path_parts one inside opened path → b ≡ a ++ one opening → d ≡ b ++ each (listed_parts one inside opened (field_pat_parts one inside opened (pat_parts one inside opened))) fields → e ≡ d ++ maybe one rest → new ≡ e ++ one closing → new ≡ old ++ pat_parts one inside opened x
puts_pat_struct old a b d e new x path opening fields rest closing is e0 e1 e2 e3 e4 = put5 old (path_parts one inside opened path) (one opening) (each (listed_parts one inside opened (field_pat_parts one inside opened (pat_parts one inside opened))) fields) (maybe one rest) (one closing) a b d e new e0 e1 e2 e3 e4 ∙ ap (λ r. old ++ r) (sym (at-Pat-Struct one inside opened x path opening fields rest closing is))

pub puts_pat_group : (old new : List Token) (x : Pat) (group : Group) (inner : Pat) → x ≡ pat.Group group inner → new ≡ old ++ pat_parts one inside opened inner → new ≡ old ++ pat_parts one inside opened x
puts_pat_group old new x group inner is e0 = e0 ∙ ap (λ r. old ++ r) (sym (at-Pat-Group one inside opened x group inner is))

pub puts_top_pat_alternatives : (old new : List Token) (x : TopPat) (x0 : List Alternative) → x ≡ top_pat.Alternatives x0 → new ≡ old ++ each (alternative_parts one inside opened) x0 → new ≡ old ++ top_pat_parts one inside opened x
puts_top_pat_alternatives old new x x0 is e0 = e0 ∙ ap (λ r. old ++ r) (sym (at-TopPat-Alternatives one inside opened x x0 is))

pub puts_top_pat_group : (old new : List Token) (x : TopPat) (group : Group) (inner : TopPat) → x ≡ top_pat.Group group inner → new ≡ old ++ top_pat_parts one inside opened inner → new ≡ old ++ top_pat_parts one inside opened x
puts_top_pat_group old new x group inner is e0 = e0 ∙ ap (λ r. old ++ r) (sym (at-TopPat-Group one inside opened x group inner is))
