-- How literals are read.
use Rattle.std.specs.Prelude.{ℕ, zero, suc, Bool, true, false}
use Rattle.em_base.specs.declared.token.Token.{Token}
use Rattle.em_tree.specs.declared.piece.FragmentKind.{FragmentKind}
use Rattle.em_tree.specs.declared.piece.FragmentKind.TheVariants as fk
use Rattle.em_tree.specs.declared.piece.Group.{Group}
use Rattle.em_tree.specs.declared.literal.Literal.{Literal}
use Rattle.em_tree.specs.declared.literal.Literal.TheVariants as made
use Rattle.em_tree.specs.Starts.{Pieces, kind_of}
use Rattle.em_grammar.specs.declared.sort.Written.TheVariants as word
use Rattle.em_grammar.specs.declared.sort.Sort.{Sort}
use Rattle.em_grammar.specs.Sorts.{sort_of}
use Rattle.em_grammar.specs.Sets.{Set, either, tokens, groups, only, is_sign, int_sort, literal_sort}
use Rattle.em_grammar.specs.Reader.{Read, Deep, token, seq, mapped, choice, group}

abbrev pub literal_kind : FragmentKind → Bool
literal_kind fk.Literal = true
literal_kind _ = false

abbrev pub is_literal_group : Group → Bool
is_literal_group g = literal_kind (kind_of g)

-- literals of these tokens
abbrev pub unsigned_first : (Sort → Bool) → Set
unsigned_first s = either (tokens s) (groups literal_kind)

abbrev pub signed_first : Set
signed_first = either (tokens (only word.Minus)) (unsigned_first literal_sort)

abbrev pub negative_of : Token × Literal → Literal
negative_of t = made.Negative t.0 t.1

abbrev pub literal_group_of : Group × Literal → Literal
literal_group_of t = made.Group t.0 t.1

-- without a sign, where the pieces of a group are read by `opened`
abbrev pub unsigned : (Sort → Bool) → (Pieces → Read Literal) → Pieces → Read Literal
unsigned s opened = choice (tokens s) (mapped made.Token (token (λ t. s (sort_of t)))) (mapped literal_group_of (group is_literal_group opened))

-- groups in one another up to the number
unfoldable pub unsigned_in : (Sort → Bool) → ℕ → Pieces → Read Literal
unsigned_in s zero i = unsigned s (λ i. Deep) i
unsigned_in s (suc n) i = unsigned s (unsigned_in s n) i

abbrev pub signed : (Pieces → Read Literal) → (Pieces → Read Literal) → Pieces → Read Literal
signed value opened = choice (tokens (only word.Minus)) (mapped negative_of (seq (token (is_sign word.Minus)) value)) (unsigned literal_sort opened)

unfoldable pub signed_in : ℕ → Pieces → Read Literal
signed_in zero i = signed (unsigned_in literal_sort zero) (λ i. Deep) i
signed_in (suc n) i = signed (unsigned_in literal_sort (suc n)) (signed_in n) i

-- a literal, where the flag says that a `-` may stand before it
abbrev pub literal_in : Bool → ℕ → Pieces → Read Literal
literal_in true n = signed_in n
literal_in false n = unsigned_in literal_sort n

abbrev pub literal_first : Bool → Set
literal_first true = signed_first
literal_first false = unsigned_first literal_sort

-- an integer
abbrev pub int_in : ℕ → Pieces → Read Literal
int_in n = unsigned_in int_sort n
