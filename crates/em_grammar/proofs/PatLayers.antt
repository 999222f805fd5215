-- The pieces of patterns, one layer at a time.
use Rattle.std.proofs.Common.{◌≡◌, List, [], ◌∷◌, ◌++◌, Option, refl, sym, ap, ◌∙◌, map}
use Rattle.em_base.specs.declared.token.Token.{Token}
use Rattle.em_tree.specs.declared.parts.Listed.{Listed}
use Rattle.em_tree.specs.declared.piece.Piece.{Piece}
use Rattle.em_tree.specs.declared.piece.Group.{Group}
use Rattle.em_tree.specs.declared.literal.Literal.{Literal}
use Rattle.em_tree.specs.declared.types.Path.{Path}
use Rattle.em_tree.specs.declared.pat.FieldPat.{FieldPat}
use Rattle.em_tree.specs.declared.pat.FieldPat.TheVariants as field_pat
use Rattle.em_tree.specs.declared.pat.Pat.{Pat, out-Pat, fold_out-Pat, map-Pat}
use Rattle.em_tree.specs.declared.pat.Pat.TheViews.{roll-Pat, roll-out-Pat}
use Rattle.em_tree.specs.declared.pat.Pat.TheVariants as pat
use Rattle.em_tree.specs.declared.pat.Pat.TheOpen.{Pat-F}
use Rattle.em_tree.specs.declared.pat.Pat.TheShapes.{former-Pat-Struct-2-at-8}
use Rattle.em_tree.specs.declared.pat.Alternative.{Alternative}
use Rattle.em_tree.specs.declared.pat.TopPat.{TopPat, out-TopPat, fold_out-TopPat, map-TopPat}
use Rattle.em_tree.specs.declared.pat.TopPat.TheViews.{roll-TopPat, roll-out-TopPat}
use Rattle.em_tree.specs.declared.pat.TopPat.TheVariants as top
use Rattle.em_tree.specs.declared.pat.TopPat.TheOpen.{TopPat-F}
use Rattle.em_tree.specs.Parts.{same, maybe, each, listed_parts, field_pat_parts, pat_parts, pat_step, alternative_parts, top_pat_parts, top_pat_step}
use Rattle.em_tree.specs.Starts.{Pieces}
use Rattle.em_tree.specs.Yields.{piece, whole, as_it_is}
use Rattle.em_tree.specs.PathGrammar.{literal_pieces, path_pieces}
use Rattle.em_tree.specs.PatGrammar.{pat_pieces, top_pieces}
use Rattle.em_grammar.specs.Lang.{with_comma}

abbrev pub field_pieces : FieldPat Pat → Pieces
field_pieces x = field_pat_parts piece whole as_it_is pat_pieces x

abbrev pub alternative_pieces : Alternative → Pieces
alternative_pieces x = alternative_parts piece whole as_it_is x

at_pat : (x : Pat) (l : Pat-F Pat) → out-Pat x ≡ l → pat_pieces x ≡ pat_step piece whole as_it_is (map-Pat Pat (List Piece) pat_pieces l)
unfolding pat_parts
at_pat x l is = fold_out-Pat (List Piece) (pat_step piece whole as_it_is) x ∙ ap (λ k. pat_step piece whole as_it_is (map-Pat Pat (List Piece) pat_pieces k)) is

at_top : (x : TopPat) (l : TopPat-F TopPat) → out-TopPat x ≡ l → top_pieces x ≡ top_pat_step piece whole as_it_is (map-TopPat TopPat (List Piece) top_pieces l)
unfolding top_pat_parts
at_top x l is = fold_out-TopPat (List Piece) (top_pat_step piece whole as_it_is) x ∙ ap (λ k. top_pat_step piece whole as_it_is (map-TopPat TopPat (List Piece) top_pieces k)) is

pub same_pat : (x y : Pat) → out-Pat x ≡ out-Pat y → x ≡ y
same_pat x y is = sym (roll-out-Pat x) ∙ ap (λ l. roll-Pat l) is ∙ roll-out-Pat y

pub same_top : (x y : TopPat) → out-TopPat x ≡ out-TopPat y → x ≡ y
same_top x y is = sym (roll-out-TopPat x) ∙ ap (λ l. roll-TopPat l) is ∙ roll-out-TopPat y

pub pieces_wild : (t : Token) → pat_pieces (pat.Wild t) ≡ piece t
pieces_wild t = at_pat (pat.Wild t) (Pat-F.Wild t) (pat.outs-Wild t)

pub pieces_name : (r m : Option Token) (t : Token) → pat_pieces (pat.Name r m t) ≡ maybe piece r ++ (maybe piece m ++ piece t)
pieces_name r m t = at_pat (pat.Name r m t) (Pat-F.Name r m t) (pat.outs-Name r m t)

pub pieces_literal : (l : Literal) → pat_pieces (pat.Literal l) ≡ literal_pieces l
pieces_literal l = at_pat (pat.Literal l) (Pat-F.Literal l) (pat.outs-Literal l)

pub pieces_range : (s : Literal) (d : Token) (e : Literal) → pat_pieces (pat.Range s d e) ≡ literal_pieces s ++ (piece d ++ literal_pieces e)
pieces_range s d e = at_pat (pat.Range s d e) (Pat-F.Range s d e) (pat.outs-Range s d e)

pub pieces_path_pat : (x : Path) → pat_pieces (pat.Path x) ≡ path_pieces x
pieces_path_pat x = at_pat (pat.Path x) (Pat-F.Path x) (pat.outs-Path x)

each_map : {A B C : Type 0} (f : B → List A) (k : C → B) (xs : List C) → each f (map k xs) ≡ each (λ x. f (k x)) xs
each_map f k [] = refl
each_map f k (x ∷ xs) = ap (λ r. f (k x) ++ r) (each_map f k xs)

each_alike : {A B : Type 0} (f g : B → List A) → ((x : B) → f x ≡ g x) → (xs : List B) → each f xs ≡ each g xs
each_alike f g same_at [] = refl
each_alike f g same_at (x ∷ xs) = ap (λ r. r ++ each f xs) (same_at x) ∙ ap (λ r. g x ++ r) (each_alike f g same_at xs)

pub pieces_tuple : (x : Path) (o : Token) (fields : List (Listed Pat)) (c : Token) → pat_pieces (pat.Tuple x o fields c) ≡ path_pieces x ++ (piece o ++ (each (with_comma pat_pieces) fields ++ piece c))
pieces_tuple x o fields c =
    at_pat (pat.Tuple x o fields c) (Pat-F.Tuple x o fields c) (pat.outs-Tuple x o fields c)
    ∙ ap (λ r. path_pieces x ++ (piece o ++ (r ++ piece c))) (each_map (listed_parts piece whole as_it_is same) _ fields)

field_alike : (item : FieldPat Pat) (comma : Option Token)
    → listed_parts piece whole as_it_is (field_pat_parts piece whole as_it_is same) (former-Pat-Struct-2-at-8.map Pat (List Piece) pat_pieces (record { item = item; comma = comma }))
    ≡ with_comma field_pieces (record { item = item; comma = comma })
field_alike (field_pat.Full name colon pat) comma = refl
field_alike (field_pat.Short word_ref word_mut name) comma = refl

pub pieces_struct : (x : Path) (o : Token) (fields : List (Listed (FieldPat Pat))) (rest : Option Token) (c : Token)
    → pat_pieces (pat.Struct x o fields rest c) ≡ path_pieces x ++ (piece o ++ (each (with_comma field_pieces) fields ++ (maybe piece rest ++ piece c)))
pieces_struct x o fields rest c =
    at_pat (pat.Struct x o fields rest c) (Pat-F.Struct x o fields rest c) (pat.outs-Struct x o fields rest c)
    ∙ ap (λ r. path_pieces x ++ (piece o ++ (r ++ (maybe piece rest ++ piece c))))
    (each_map (listed_parts piece whole as_it_is (field_pat_parts piece whole as_it_is same)) _ fields ∙ each_alike _ (with_comma field_pieces) (λ y. field_alike y.item y.comma) fields)

pub pieces_pat_group : (g : Group) (x : Pat) → pat_pieces (pat.Group g x) ≡ whole g (pat_pieces x)
pieces_pat_group g x = at_pat (pat.Group g x) (Pat-F.Group g x) (pat.outs-Group g x)

pub pieces_alternatives : (xs : List Alternative) → top_pieces (top.Alternatives xs) ≡ each alternative_pieces xs
pieces_alternatives xs = at_top (top.Alternatives xs) (TopPat-F.Alternatives xs) (top.outs-Alternatives xs)

pub pieces_top_group : (g : Group) (x : TopPat) → top_pieces (top.Group g x) ≡ whole g (top_pieces x)
pieces_top_group g x = at_top (top.Group g x) (TopPat-F.Group g x) (top.outs-Group g x)
