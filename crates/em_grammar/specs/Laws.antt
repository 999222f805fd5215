-- Laws of the grammar: how each category is read, and that no two trees have one yield.
use Rattle.std.specs.Prelude.{◌≡◌, ℕ, ◌≤◌, Bool, true}
use Rattle.em_tree.specs.declared.literal.Literal.{Literal}
use Rattle.em_tree.specs.declared.types.Path.{Path}
use Rattle.em_tree.specs.declared.types.TypeTree.{TypeTree}
use Rattle.em_tree.specs.declared.pat.Pat.{Pat}
use Rattle.em_tree.specs.declared.pat.TopPat.{TopPat}
use Rattle.em_tree.specs.Starts.{Pieces}
use Rattle.em_tree.specs.PathGrammar.{IsLiteral, IsIntLiteral, literal_pieces, IsPlainPath, path_pieces, PathWithin, IsType, TypeWithin, type_pieces}
use Rattle.em_tree.specs.PatGrammar.{IsPat, pat_pieces, IsTopPat, top_pieces}
use Rattle.em_grammar.specs.Sets.{Inside, Nested, anything, int_sort}
use Rattle.em_grammar.specs.LiteralReader.{literal_in, literal_first, int_in, unsigned_first}
use Rattle.em_grammar.specs.PathReader.{plain_path_in, plain_first, path_first, path_clear}
use Rattle.em_grammar.specs.TypeReader.{type_in, plain_type_in, path_in, type_first, clear_by}
use Rattle.em_grammar.specs.PatReader.{pat_in, pat_first, pat_clear, top_pat_in, top_first, top_clear}
use Rattle.em_grammar.specs.Pairs.{Pair, Firm, Exact}

-- groups nest in one another finitely often
abbrev pub GroupsNest : Type 0
GroupsNest = (ys : Pieces) → (n : ℕ) × Inside (Nested n) ys

-- ---- literals

-- literals, with a sign or not, are read
abbrev pub LiteralsRead : Type 0
LiteralsRead = (signed : Bool) (n depth : ℕ) → Pair (Nested n) depth (λ d. IsLiteral signed) literal_pieces (literal_in signed n) (literal_first signed) (λ _. anything)

abbrev pub LiteralsSteady : Type 0
LiteralsSteady = (signed : Bool) (n m : ℕ) → n ≤ m → Firm (literal_in signed n) (literal_in signed m)

abbrev pub LiteralsExact : Type 0
LiteralsExact = (signed : Bool) → Exact (λ d. IsLiteral signed) literal_pieces (λ n depth. literal_in signed n)

abbrev pub OneLiteral : Type 0
OneLiteral = (signed other : Bool) (x y : Literal) → IsLiteral signed x → IsLiteral other y → literal_pieces x ≡ literal_pieces y → x ≡ y

-- integers are read
abbrev pub IntsRead : Type 0
IntsRead = (n depth : ℕ) → Pair (Nested n) depth (λ d. IsIntLiteral) literal_pieces (int_in n) (unsigned_first int_sort) (λ _. anything)

abbrev pub IntsSteady : Type 0
IntsSteady = (n m : ℕ) → n ≤ m → Firm (int_in n) (int_in m)

abbrev pub IntsExact : Type 0
IntsExact = Exact (λ d. IsIntLiteral) literal_pieces (λ n depth. int_in n)

-- ---- paths

-- paths without `<` are read
abbrev pub PlainPathsRead : Type 0
PlainPathsRead = (n depth : ℕ) → Pair (Nested n) depth (λ d. IsPlainPath) path_pieces (plain_path_in n) plain_first (λ _. path_clear)

abbrev pub PlainPathsSteady : Type 0
PlainPathsSteady = (n m : ℕ) → n ≤ m → Firm (plain_path_in n) (plain_path_in m)

abbrev pub PlainPathsExact : Type 0
PlainPathsExact = Exact (λ d. IsPlainPath) path_pieces (λ n depth. plain_path_in n)

-- paths are read
abbrev pub PathsRead : Type 0
PathsRead = (n depth : ℕ) → Pair (Nested n) depth PathWithin path_pieces (path_in n depth) path_first (λ _. path_clear)

abbrev pub PathsSteady : Type 0
PathsSteady = (n m d e : ℕ) → n ≤ m → d ≤ e → Firm (path_in n d) (path_in m e)

abbrev pub PathsExact : Type 0
PathsExact = Exact PathWithin path_pieces path_in

abbrev pub OnePath : Type 0
OnePath = (d e : ℕ) (x y : Path) → PathWithin d x → PathWithin e y → path_pieces x ≡ path_pieces y → x ≡ y

-- ---- types

-- types are read, and whether they owe a `>`, where they may
abbrev pub TypesRead : Type 0
TypesRead = (n depth : ℕ) (may : Bool) → Pair (Nested n) depth (λ d t. IsType d t.1 t.0 × (t.1 ≡ true → may ≡ true)) (λ t. type_pieces t.0) (type_in n depth may) type_first (λ t. clear_by t.1)

abbrev pub TypesSteady : Type 0
TypesSteady = (n m d e : ℕ) → n ≤ m → d ≤ e → (may : Bool) → Firm (type_in n d may) (type_in m e may)

-- of those that owe none
abbrev pub TypesExact : Type 0
TypesExact = Exact TypeWithin type_pieces plain_type_in

abbrev pub OneType : Type 0
OneType = (d e : ℕ) (x y : TypeTree) → TypeWithin d x → TypeWithin e y → type_pieces x ≡ type_pieces y → x ≡ y

-- ---- patterns

-- patterns without alternatives are read
abbrev pub PatsRead : Type 0
PatsRead = (n depth : ℕ) → Pair (Nested n) depth IsPat pat_pieces (pat_in n depth) pat_first (λ _. pat_clear)

abbrev pub PatsSteady : Type 0
PatsSteady = (n m d e : ℕ) → n ≤ m → d ≤ e → Firm (pat_in n d) (pat_in m e)

abbrev pub PatsExact : Type 0
PatsExact = Exact IsPat pat_pieces pat_in

abbrev pub OnePat : Type 0
OnePat = (d e : ℕ) (x y : Pat) → IsPat d x → IsPat e y → pat_pieces x ≡ pat_pieces y → x ≡ y

-- patterns with alternatives are read
abbrev pub TopPatsRead : Type 0
TopPatsRead = (n depth : ℕ) → Pair (Nested n) depth IsTopPat top_pieces (top_pat_in n depth) top_first (λ _. top_clear)

abbrev pub TopPatsSteady : Type 0
TopPatsSteady = (n m d e : ℕ) → n ≤ m → d ≤ e → Firm (top_pat_in n d) (top_pat_in m e)

abbrev pub TopPatsExact : Type 0
TopPatsExact = Exact IsTopPat top_pieces top_pat_in

abbrev pub OneTopPat : Type 0
OneTopPat = (d e : ℕ) (x y : TopPat) → IsTopPat d x → IsTopPat e y → top_pieces x ≡ top_pieces y → x ≡ y
