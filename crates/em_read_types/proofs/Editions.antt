-- The edition of the first token.
use Rattle.std.proofs.Common.{◌≡◌, false, List, [], ◌∷◌, ◌++◌, Option, Some, None, refl, sym, ap, ◌∙◌}
use Rattle.std.proofs.lemmas.List.{append-nil}
use Rattle.em_base.specs.declared.edition.Edition.{Edition}
use Rattle.em_base.specs.declared.token.Token.{Token}
use Rattle.em_tree.specs.declared.piece.Group.{Group}
use Rattle.em_tree.specs.declared.piece.Piece.{Piece}
use Rattle.em_tree.specs.declared.piece.Piece.TheVariants as p
use Rattle.em_tree.specs.declared.types.Segments.{Segments}
use Rattle.em_tree.specs.declared.types.Path.{Path}
use Rattle.em_tree.specs.declared.types.Path.TheVariants as made
use Rattle.em_tree.specs.declared.types.Qualified.{Qualified, out-Qualified}
use Rattle.em_tree.specs.Parts.{maybe}
use Rattle.em_tree.specs.Starts.{Pieces, pieces_of}
use Rattle.em_tree.specs.Tokens.{before_2021}
use Rattle.em_tree.specs.Yields.{piece, opened, opened_piece}
use Rattle.em_tree.specs.PathGrammar.{path_pieces}
use Rattle.em_grammar.specs.TypeReader.{starts_old}
use Rattle.em_grammar.proofs.PathLayers.{at_qualified, pieces_plain, pieces_qualified, pieces_path_group}
use Rattle.em_grammar.proofs.PathFacts.{opened_token, opened_group}
use Rattle.em_read_types.specs.TypeParts.{front, edition_of}

pub token_edition : (x : Piece) (t : Token) → x ≡ p.Token t → edition_of (opened_piece x) ≡ Some t.edition
token_edition x t is = ap (λ k. edition_of (opened_piece k)) is ∙ ap (λ k. edition_of k) (opened_token t)

pub group_edition : (x : Piece) (g : Group) → x ≡ p.Group g → edition_of (opened_piece x) ≡ edition_of (opened (pieces_of g))
group_edition x g is = ap (λ k. edition_of (opened_piece k)) is ∙ ap (λ k. edition_of k) (opened_group g)

-- behind pieces with no token
pub none_before : (xs ys : List Token) → edition_of xs ≡ None → edition_of (xs ++ ys) ≡ edition_of ys
none_before [] ys h = refl
none_before (x ∷ xs) ys h = cc

pub some_before : (xs ys : List Token) (e : Edition) → edition_of xs ≡ Some e → edition_of (xs ++ ys) ≡ Some e
some_before [] ys e h = cc
some_before (x ∷ xs) ys e h = h

first_old : (t : Token) (ys : Pieces) → starts_old (opened (p.Token t ∷ ys)) ≡ before_2021 t.edition
first_old t ys = ap (λ k. starts_old (k ++ opened ys)) (opened_token t)

front_old : (lead dollar : Option Token) (n : Token) (zs : Pieces) → starts_old (opened (maybe piece lead ++ ((maybe piece dollar ++ piece n) ++ zs))) ≡ before_2021 (front lead dollar n).edition
front_old (Some c) dollar n zs = first_old c ((maybe piece dollar ++ piece n) ++ zs)
front_old None (Some d) n zs = first_old d (piece n ++ zs)
front_old None None n zs = first_old n zs

pub old_plain : (x : Path) (s : Segments) → x ≡ made.Plain s → starts_old (opened (path_pieces x)) ≡ before_2021 (front s.lead s.first.dollar s.first.name).edition
old_plain x s is = ap (λ k. starts_old (opened (path_pieces k))) is ∙ ap (λ k. starts_old (opened k)) (pieces_plain s) ∙ front_old s.lead s.first.dollar s.first.name _

pub old_qualified : (x : Path) (q : Qualified) → x ≡ made.Qualified q → starts_old (opened (path_pieces x)) ≡ before_2021 (out-Qualified q).«open».edition
old_qualified x q is =
    ap (λ k. starts_old (opened (path_pieces k))) is ∙ ap (λ k. starts_old (opened k)) (pieces_qualified q ∙ at_qualified q (out-Qualified q) refl)
    ∙ first_old (out-Qualified q).«open» _

group_old : (x : Path) (g : Group) (y : Path) → x ≡ made.Group g y → opened (path_pieces x) ≡ opened (pieces_of g)
group_old x g y is =
    ap (λ k. opened (path_pieces k)) is ∙ ap (λ k. opened k) (pieces_path_group g y) ∙ append-nil (opened_piece (p.Group g)) ∙ opened_group g

known : (ts : List Token) (e : Edition) → Some e ≡ edition_of ts → starts_old ts ≡ before_2021 e
known [] e h = cc
known (t ∷ ts) e h = let same : e ≡ t.edition = cc in ap (λ k. before_2021 k) (sym same)

unknown : (ts : List Token) → None ≡ edition_of ts → starts_old ts ≡ false
unknown [] h = refl
unknown (t ∷ ts) h = cc

pub old_group : (x : Path) (g : Group) (y : Path) (e : Edition) → x ≡ made.Group g y → Some e ≡ edition_of (opened (pieces_of g)) → starts_old (opened (path_pieces x)) ≡ before_2021 e
old_group x g y e is h = ap (λ k. starts_old k) (group_old x g y is) ∙ known (opened (pieces_of g)) e h

pub old_none : (x : Path) (g : Group) (y : Path) → x ≡ made.Group g y → None ≡ edition_of (opened (pieces_of g)) → starts_old (opened (path_pieces x)) ≡ false
old_none x g y is h = ap (λ k. starts_old k) (group_old x g y is) ∙ unknown (opened (pieces_of g)) h
