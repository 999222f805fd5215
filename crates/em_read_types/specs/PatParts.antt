-- Parts of patterns, as the code has them.
use Rattle.std.specs.Prelude.{ℕ, Bool, false, if◌then◌else◌, List, [], ◌∷◌, Option, Some, None}
use Rattle.em_base.specs.declared.token.Token.{Token}
use Rattle.em_tree.specs.declared.piece.Group.{Group}
use Rattle.em_tree.specs.declared.piece.Piece.TheVariants as p
use Rattle.em_tree.specs.declared.parts.Listed.{Listed}
use Rattle.em_tree.specs.declared.types.Path.{Path}
use Rattle.em_tree.specs.declared.pat.Pat.{Pat}
use Rattle.em_tree.specs.declared.pat.Pat.TheVariants as made
use Rattle.em_tree.specs.declared.pat.Alternative.{Alternative}
use Rattle.em_tree.specs.declared.pat.TopPat.{TopPat}
use Rattle.em_tree.specs.Starts.{Pieces}
use Rattle.em_grammar.specs.declared.sort.Written.TheVariants as word
use Rattle.em_grammar.specs.Sorts.{sort_of}
use Rattle.em_grammar.specs.Sets.{tokens, only, is_sign, name_sort}
use Rattle.em_grammar.specs.Reader.{Read, token, seq, mapped, choice, opt, when, group}
use Rattle.em_grammar.specs.LiteralReader.{signed_in}
use Rattle.em_grammar.specs.Lang.{Sum, one, two}
use Rattle.em_grammar.specs.PatReader as spec
use Rattle.em_read_types.specs.declared.pat.Marked.{Marked}
use Rattle.em_read_types.specs.declared.pat.Fields.{Fields}
use Rattle.em_read_types.specs.declared.pat.Fields.TheVariants as fields

abbrev pub marked_of : Marked → spec.Marked
marked_of m = (m.word_ref, (m.word_mut, m.name))

abbrev pub fields_of : Fields → Sum spec.TupleParts spec.StructParts
fields_of (fields.Tuple o xs c) = one (o, (xs, c))
fields_of (fields.Struct o xs r c) = two ((o, xs), (r, c))

-- the first piece is a group with a property
abbrev pub first_group : (Group → Bool) → Pieces → Bool
first_group test [] = false
first_group test (p.Token t ∷ r) = false
first_group test (p.Group g ∷ r) = test g

-- a literal or a range, where groups stand in one another up to the number
abbrev pub literal_pat : ℕ → Pieces → Read Pat
literal_pat n = mapped spec.literal_pat (seq (signed_in n) (opt (seq (token spec.is_dots) (signed_in n))))

abbrev pub named_field : (Pieces → Read Pat) → Pieces → Read spec.Field
named_field inner = mapped spec.named_field (seq spec.name (opt (seq (token (is_sign word.Colon)) inner)))

abbrev pub behind : (Pieces → Read Pat) → Pieces → Read (Sum spec.TupleParts spec.StructParts)
behind inner = choice (tokens (only word.OpenParen)) (mapped one (spec.tuple_parts inner)) (mapped two (spec.struct_parts inner))

abbrev pub path_pat : (Pieces → Read Path) → (Pieces → Read Pat) → Pieces → Read Pat
path_pat path inner = mapped spec.path_pat (seq path (opt (behind inner)))

-- the token, if it is a name
abbrev pub only_name : Option Token → Option Token
only_name None = None
only_name (Some t) = if name_sort (sort_of t) then Some t else None

abbrev pub with_fields : Path → Sum spec.TupleParts spec.StructParts → Pat
with_fields x (one a) = made.Tuple x a.0 a.1.0 a.1.1
with_fields x (two a) = made.Struct x a.0.0 a.0.1 a.1.0 a.1.1

-- the end of a struct pattern, behind these fields
abbrev pub struct_end : List (Listed spec.Field) → Pieces → Read (Option Token × Token)
struct_end xs = seq (opt (when (spec.all_commas xs) (token (is_sign word.DotDot)))) (token (is_sign word.CloseBrace))

-- alternatives, and a group with a bar
abbrev pub first_alternative : (Pieces → Read Pat) → Pieces → Read Alternative
first_alternative pat = mapped spec.first_alternative (seq (opt (token (is_sign word.Or))) pat)

abbrev pub next_alternative : (Pieces → Read Pat) → Pieces → Read Alternative
next_alternative pat = mapped spec.next_alternative (seq (token (is_sign word.Or)) pat)

abbrev pub top_group : (Pieces → Read TopPat) → Pieces → Read TopPat
top_group opened = mapped spec.top_group_of (group spec.is_top_group opened)
