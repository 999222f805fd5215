-- Laws of the grammar.
use Rattle.std.proofs.Common.{Bool, true, false, refl}
use Rattle.em_tree.specs.declared.literal.Literal.{Literal}
use Rattle.em_tree.specs.declared.types.Path.{Path}
use Rattle.em_tree.specs.declared.types.TypeTree.{TypeTree}
use Rattle.em_tree.specs.PathGrammar as g
use Rattle.em_tree.specs.PathGrammar.{IsLiteral, IsIntLiteral, literal_pieces, IsPlainPath, path_pieces, PathWithin, TypeWithin, type_pieces}
use Rattle.em_grammar.specs.Sets.{anything, int_sort}
use Rattle.em_grammar.specs.LiteralReader.{literal_in, literal_first, int_in, unsigned_first}
use Rattle.em_grammar.specs.PathReader.{plain_path_in, plain_first, path_first, path_clear}
use Rattle.em_grammar.specs.TypeReader.{plain_type_in, path_in, tree_of, type_first, type_clear}
use Rattle.em_tree.specs.declared.pat.Pat.{Pat}
use Rattle.em_tree.specs.declared.pat.TopPat.{TopPat}
use Rattle.em_tree.specs.PatGrammar.{IsPat, pat_pieces, IsTopPat, top_pieces}
use Rattle.em_grammar.specs.PatReader.{pat_in, pat_first, pat_clear, top_pat_in, top_first, top_clear}
use Rattle.em_grammar.specs.Laws.{PatsExact, PatsSteady, TopPatsExact, TopPatsSteady}
use Rattle.em_grammar.proofs.PatPairs.{pats_read, tops_read, pats_firm, tops_firm}
use Rattle.em_grammar.specs.Laws.{LiteralsExact, OneLiteral, IntsSteady, IntsExact, PlainPathsExact, PathsExact, PathsSteady, TypesExact, TypesSteady}
use Rattle.em_grammar.proofs.Steady.{firm_map}
use Rattle.em_grammar.proofs.Nesting.{exact_of}
use Rattle.em_grammar.proofs.LiteralPairs.{literal_reads, int_reads}
use Rattle.em_grammar.proofs.PathPairs.{plain_reads}
use Rattle.em_grammar.proofs.TypePairs.{paths_read, plain_types_read}
use Rattle.em_grammar.proofs.FirmTypes.{literal_firm, unsigned_firm, plain_firm, types_firm, paths_firm}

may_sign : (s : Bool) (x : Literal) → IsLiteral s x → IsLiteral true x
may_sign _ _ (g.IsLiteral.token is m) = g.IsLiteral.token is m
may_sign _ _ (g.IsLiteral.negative is m n) = g.IsLiteral.negative is m n
may_sign _ _ (g.IsLiteral.group {y} is k ps m) = g.IsLiteral.group is k ps (may_sign _ y m)

pub literals_exact : LiteralsExact
literals_exact s =
    exact_of Literal (λ d. IsLiteral s) literal_pieces (λ n depth. literal_in s n) (literal_first s) (λ _. anything) (literal_reads s) (λ d t m. refl) (λ n m d e h k. literal_firm s n m h)

pub one_literal : OneLiteral
one_literal s u x y a b is = (literals_exact true).one 0 0 x y (may_sign s x a) (may_sign u y b) is

pub ints_steady : IntsSteady
ints_steady n m h = unsigned_firm int_sort n m h

pub ints_exact : IntsExact
ints_exact = exact_of Literal (λ d. IsIntLiteral) literal_pieces (λ n depth. int_in n) (unsigned_first int_sort) (λ _. anything) int_reads (λ d t m. refl) (λ n m d e h k. ints_steady n m h)

pub plain_exact : PlainPathsExact
plain_exact = exact_of Path (λ d. IsPlainPath) path_pieces (λ n depth. plain_path_in n) plain_first (λ _. path_clear) plain_reads (λ d t m. refl) (λ n m d e h k. plain_firm n m h)

pub paths_steady : PathsSteady
paths_steady n m d e h k = paths_firm n m h d e k

pub paths_exact : PathsExact
paths_exact = exact_of Path PathWithin path_pieces path_in path_first (λ _. path_clear) paths_read (λ d t m. refl) paths_steady

pub types_steady : TypesSteady
types_steady n m d e h k may = types_firm n m h d e k may

pub types_exact : TypesExact
types_exact =
    exact_of TypeTree TypeWithin type_pieces plain_type_in type_first (λ _. type_clear) plain_types_read (λ d t m. refl)
    (λ n m d e h k. firm_map tree_of (types_firm n m h d e k false))

pub pats_steady : PatsSteady
pats_steady n m d e h k = pats_firm n m h d e k

pub pats_exact : PatsExact
pats_exact = exact_of Pat IsPat pat_pieces pat_in pat_first (λ _. pat_clear) pats_read (λ d t m. refl) pats_steady

pub tops_steady : TopPatsSteady
tops_steady n m d e h k = tops_firm n m h d e k

pub tops_exact : TopPatsExact
tops_exact = exact_of TopPat IsTopPat top_pieces top_pat_in top_first (λ _. top_clear) tops_read (λ d t m. refl) tops_steady
