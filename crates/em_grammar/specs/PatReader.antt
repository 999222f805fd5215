-- How patterns are read.
use Rattle.std.specs.Prelude.{ℕ, zero, suc, Bool, true, false, not, ◌&&◌, ◌||◌, if◌then◌else◌, List, [], ◌∷◌, Option, Some, None}
use Rattle.std.specs.List.{list_any}
use Rattle.std.specs.Option.{is_some}
use Rattle.em_base.specs.declared.token.Token.{Token}
use Rattle.em_tree.specs.declared.parts.Listed.{Listed}
use Rattle.em_tree.specs.declared.piece.FragmentKind.{FragmentKind}
use Rattle.em_tree.specs.declared.piece.FragmentKind.TheVariants as fk
use Rattle.em_tree.specs.declared.piece.Group.{Group}
use Rattle.em_tree.specs.declared.literal.Literal.{Literal}
use Rattle.em_tree.specs.declared.types.Path.{Path}
use Rattle.em_tree.specs.declared.pat.FieldPat.{FieldPat}
use Rattle.em_tree.specs.declared.pat.FieldPat.TheVariants as field
use Rattle.em_tree.specs.declared.pat.Pat.{Pat}
use Rattle.em_tree.specs.declared.pat.Pat.TheVariants as made
use Rattle.em_tree.specs.declared.pat.Alternative.{Alternative}
use Rattle.em_tree.specs.declared.pat.TopPat.{TopPat}
use Rattle.em_tree.specs.declared.pat.TopPat.TheVariants as top
use Rattle.em_tree.specs.Starts.{Pieces, kind_of, pieces_of, is_bar}
use Rattle.em_tree.specs.Tokens.{before_2021}
use Rattle.em_grammar.specs.declared.sort.Written.TheVariants as word
use Rattle.em_grammar.specs.declared.sort.Sort.{Sort}
use Rattle.em_grammar.specs.Sorts.{sort_of}
use Rattle.em_grammar.specs.Sets.{Set, next, either, tokens, groups, others, only, is_sign, any_of, name_sort}
use Rattle.em_grammar.specs.Lang.{Sum, one, two}
use Rattle.em_grammar.specs.Reader.{Read, Absent, Deep, token, seq, chain, mapped, choice, opt, or_else, when, all_of, list_of, group}
use Rattle.em_grammar.specs.LiteralReader.{signed_first, literal_in}
use Rattle.em_grammar.specs.PathReader.{path_first}
use Rattle.em_grammar.specs.TypeReader.{alone, path_in}

-- ---- what patterns begin with, and what may follow them

abbrev pub has_bar : Group → Bool
has_bar g = list_any is_bar (pieces_of g)

abbrev pub pat_kind : FragmentKind → Bool
pat_kind fk.Pat = true
pat_kind fk.PatParam = true
pat_kind _ = false

abbrev pub only_pat : FragmentKind → Bool
only_pat fk.Pat = true
only_pat _ = false

-- a group that is one pattern
abbrev pub is_pat_group : Group → Bool
is_pat_group g = pat_kind (kind_of g) && not (only_pat (kind_of g) && has_bar g)

-- a group with a bar
abbrev pub is_top_group : Group → Bool
is_top_group g = only_pat (kind_of g) && has_bar g

abbrev pub mark_first : Set
mark_first = either (tokens (only word.Ref)) (tokens (only word.Mut))

abbrev pub pat_node_first : Set
pat_node_first = either (tokens (only word.Underscore)) (either mark_first (either signed_first path_first))

abbrev pub pat_first : Set
pat_first = either pat_node_first (groups pat_kind)

abbrev pub dots_sort : Sort → Bool
dots_sort s = any_of (word.DotDotEq ∷ word.DotDotDot ∷ []) s

-- what no pattern goes on with
abbrev pub pat_clear : Set
pat_clear = others (tokens (λ s. any_of (word.DotDotEq ∷ word.DotDotDot ∷ word.PathSep ∷ word.OpenParen ∷ word.OpenBrace ∷ []) s))

-- ---- parts

-- `ref` and `mut` before a name
abbrev pub Marked : Type 0
Marked = Option Token × (Option Token × Token)

abbrev pub ref_marked : Token × (Option Token × Token) → Marked
ref_marked t = (Some t.0, (t.1.0, t.1.1))

abbrev pub mut_marked : Token × Token → Marked
mut_marked t = (None, (Some t.0, t.1))

abbrev pub name : Pieces → Read Token
name = token (λ t. name_sort (sort_of t))

-- at least one of `ref` and `mut`
abbrev pub marked : Pieces → Read Marked
marked = choice (tokens (only word.Ref)) (mapped ref_marked (seq (token (is_sign word.Ref)) (seq (opt (token (is_sign word.Mut))) name))) (mapped mut_marked (seq (token (is_sign word.Mut)) name))

abbrev pub marked_pat : Marked → Pat
marked_pat t = made.Name t.0 t.1.0 t.1.1

abbrev pub is_dots : Token → Bool
is_dots t = only word.DotDotEq (sort_of t) || (only word.DotDotDot (sort_of t) && before_2021 t.edition)

-- a literal, and what makes it a range
abbrev pub literal_pat : Literal × Option (Token × Literal) → Pat
literal_pat t = elim t.1 [ None ↦ made.Literal t.0 | Some e ↦ made.Range t.0 e.0 e.1 ]

abbrev pub TupleParts : Type 0
TupleParts = Token × (List (Listed Pat) × Token)

abbrev pub Field : Type 0
Field = FieldPat Pat

abbrev pub StructParts : Type 0
StructParts = (Token × List (Listed Field)) × (Option Token × Token)

abbrev pub bare_pat : Path → Option Token → Pat
bare_pat x None = made.Path x
bare_pat x (Some t) = if name_sort (sort_of t) then made.Name None None t else made.Path x

-- the pattern of a path and what stands behind it
abbrev pub path_pat : Path × Option (Sum TupleParts StructParts) → Pat
path_pat t =
    elim t.1 [
      | None ↦ bare_pat t.0 (alone t.0)
      | Some k ↦ elim k [ one a ↦ made.Tuple t.0 a.0 a.1.0 a.1.1 | two a ↦ made.Struct t.0 a.0.0 a.0.1 a.1.0 a.1.1 ]
    ]

abbrev pub marked_field : Marked → Field
marked_field t = field.Short t.0 t.1.0 t.1.1

abbrev pub named_field : Token × Option (Token × Pat) → Field
named_field t = elim t.1 [ None ↦ field.Short None None t.0 | Some p ↦ field.Full t.0 p.0 p.1 ]

abbrev pub all_commas : {A : Type 0} → List (Listed A) → Bool
all_commas [] = true
all_commas (x ∷ xs) = is_some x.comma && all_commas xs

abbrev pub pat_group_of : Group × Pat → Pat
pat_group_of t = made.Group t.0 t.1

-- ---- readers

module _ (inner : Pieces → Read Pat) where
  abbrev pub tuple_parts : Pieces → Read TupleParts
  tuple_parts = seq (token (is_sign word.OpenParen)) (seq (list_of inner) (token (is_sign word.CloseParen)))

  abbrev pub pat_field : Pieces → Read Field
  pat_field = choice mark_first (mapped marked_field marked) (mapped named_field (seq name (opt (seq (token (is_sign word.Colon)) inner))))

  abbrev pub struct_end : List (Listed Field) → Pieces → Read (Option Token × Token)
  struct_end fields = seq (opt (when (all_commas fields) (token (is_sign word.DotDot)))) (token (is_sign word.CloseBrace))

  abbrev pub struct_parts : Pieces → Read StructParts
  struct_parts = chain (seq (token (is_sign word.OpenBrace)) (list_of pat_field)) (λ t. struct_end t.1)

  abbrev pub behind_path : Pieces → Read (Option (Sum TupleParts StructParts))
  behind_path = opt (choice (tokens (only word.OpenParen)) (mapped one tuple_parts) (mapped two struct_parts))

module _ (n : ℕ) (path : Pieces → Read Path) (inner : Pieces → Read Pat) where
  unfoldable pub pat_token : Pieces → Read Pat
  pat_token i =
      choice (tokens (only word.Underscore)) (mapped made.Wild (token (is_sign word.Underscore)))
      (choice mark_first (mapped marked_pat marked)
      (choice signed_first (mapped literal_pat (seq (literal_in true n) (opt (seq (token is_dots) (literal_in true n)))))
      (mapped path_pat (seq path (behind_path inner))))) i

  unfoldable pub pat_node : (Pieces → Read Pat) → Pieces → Read Pat
  pat_node opened i = choice pat_node_first pat_token (mapped pat_group_of (group is_pat_group opened)) i

-- patterns that nest no deeper than the number
unfoldable pub pat_by : ℕ → (ℕ → Pieces → Read Pat) → ℕ → Pieces → Read Pat
pat_by n opened zero i = if next pat_first i then Deep else Absent
pat_by n opened (suc depth) i = pat_node n (path_in n depth) (pat_by n opened depth) (opened (suc depth)) i

-- groups in one another up to the number
unfoldable pub pat_in : ℕ → ℕ → Pieces → Read Pat
pat_in zero = pat_by 0 (λ depth i. Deep)
pat_in (suc n) = pat_by (suc n) (pat_in n)

-- ---- alternatives

abbrev pub top_first : Set
top_first = either (groups only_pat) (either (tokens (only word.Or)) pat_first)

abbrev pub top_clear : Set
top_clear = others (tokens (λ s. any_of (word.Or ∷ word.DotDotEq ∷ word.DotDotDot ∷ word.PathSep ∷ word.OpenParen ∷ word.OpenBrace ∷ []) s))

abbrev pub first_alternative : Option Token × Pat → Alternative
first_alternative t = record { bar = t.0; pat = t.1 }

abbrev pub next_alternative : Token × Pat → Alternative
next_alternative t = record { bar = Some t.0; pat = t.1 }

abbrev pub alternatives_of : Alternative × List Alternative → TopPat
alternatives_of t = top.Alternatives (t.0 ∷ t.1)

abbrev pub top_group_of : Group × TopPat → TopPat
top_group_of t = top.Group t.0 t.1

abbrev pub alternatives : (Pieces → Read Pat) → Pieces → Read TopPat
alternatives pat =
    mapped alternatives_of (seq (mapped first_alternative (seq (opt (token (is_sign word.Or))) pat)) (all_of (mapped next_alternative (seq (token (is_sign word.Or)) pat))))

abbrev pub top_node : (Pieces → Read Pat) → (Pieces → Read TopPat) → Pieces → Read TopPat
top_node pat opened = or_else (mapped top_group_of (group is_top_group opened)) (alternatives pat)

unfoldable pub top_pat_in : ℕ → ℕ → Pieces → Read TopPat
top_pat_in zero depth i = top_node (pat_in 0 depth) (λ i. Deep) i
top_pat_in (suc n) depth i = top_node (pat_in (suc n) depth) (top_pat_in n depth) i
