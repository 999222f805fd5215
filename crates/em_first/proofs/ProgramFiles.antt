-- The tokens of a program of the first form are a file of the grammar.
use Rattle.std.proofs.Common.{◌≡◌, inr, ℕ, zero, suc, Bool, true, false, not, List, [], ◌∷◌, ◌++◌, map, codes, refl, subst, sym, ap, ◌∙◌, append_assoc, append-nil}
use Rattle.std.specs.Prelude.{Some, None}
use Rattle.std.proofs.Math.Utf8.{encode}
use Rattle.std.proofs.lemmas.Bool.{and_parts}
use Rattle.em_base.specs.declared.edition.Edition.TheVariants.{E2015}
use Rattle.em_base.specs.declared.token.Token.{Token}
use Rattle.em_base.specs.declared.token.TokenKind.TheVariants.{Ident}
use Rattle.em_base.specs.Words.{strict, class_of}
use Rattle.em_tree.specs.declared.piece.Piece.{Piece, fold-Piece, fold_out-Piece, map-Piece}
use Rattle.em_tree.specs.declared.piece.Piece.TheVariants as p
use Rattle.em_tree.specs.declared.piece.Group.{Group, fold-Group}
use Rattle.em_tree.specs.declared.piece.PieceList.{PieceList, fold-PieceList}
use Rattle.em_tree.specs.declared.types.Output.{Output, roll-Output, fold-roll-Output}
use Rattle.em_tree.specs.declared.types.Bound.TheOpen.{Output-F}
use Rattle.em_tree.specs.declared.types.Bound.TheViews.{out-roll-Output}
use Rattle.em_tree.specs.declared.pat.Pat.{Pat, roll-Pat, fold-roll-Pat}
use Rattle.em_tree.specs.declared.pat.Pat.TheOpen.{Pat-F}
use Rattle.em_tree.specs.declared.pat.Pat.TheViews.{out-roll-Pat}
use Rattle.em_tree.specs.declared.expr.Annotation.TheVariants as annotation
use Rattle.em_tree.specs.declared.expr.MacroCall.{MacroCall}
use Rattle.em_tree.specs.declared.expr.Block.{Block}
use Rattle.em_tree.specs.declared.expr.Body.{Body, roll-Body, fold-roll-Body}
use Rattle.em_tree.specs.declared.expr.ElseIf.{ElseIf}
use Rattle.em_tree.specs.declared.expr.Expr.{Expr, roll-Expr, fold-roll-Expr}
use Rattle.em_tree.specs.declared.expr.Stmt.{Stmt, out-Stmt, roll-Stmt, fold-roll-Stmt}
use Rattle.em_tree.specs.declared.expr.Expr.TheOpen.{Expr-F, Stmt-F}
use Rattle.em_tree.specs.declared.expr.Expr.TheViews.{out-roll-Expr, out-roll-Stmt}
use Rattle.em_tree.specs.declared.item.Sig.{Sig}
use Rattle.em_tree.specs.declared.item.Item.{Item, roll-Item, fold-roll-Item}
use Rattle.em_tree.specs.declared.item.Item.TheOpen.{Item-F}
use Rattle.em_tree.specs.declared.item.Item.TheViews.{out-roll-Item}
use Rattle.em_tree.specs.declared.item.ItemBody.TheVariants as item_body
use Rattle.em_tree.specs.declared.item.FileTree.{FileTree}
use Rattle.em_tree.specs.Parts.{same, each, bound_step, output_step, path_step, type_tree_step, qualified_step, output_parts, pat_step, pat_parts, expr_step, stmt_step, body_step, else_if_step, expr_parts, stmt_parts, body_parts, item_step, item_parts, block_parts}
use Rattle.em_tree.specs.Starts as starts
use Rattle.em_tree.specs.Starts.{is_spelled, is_one_of}
use Rattle.em_tree.specs.Yields.{piece, whole, as_it_is, open_piece, open_group, open_list, opened_piece, opened}
use Rattle.em_tree.specs.Tokens as tokens
use Rattle.em_tree.specs.Tokens.{Is, Each, Name, IsLiteralToken, Balanced, Match, signs, is_written, delimiters}
use Rattle.em_tree.specs.PathGrammar
use Rattle.em_tree.specs.PatGrammar
use Rattle.em_tree.specs.PatGrammar.{IsPat, pat_pieces}
use Rattle.em_tree.specs.ExprGrammar
use Rattle.em_tree.specs.ExprGrammar.{IsExpr, BlockWithin, IsNoMention, LastIsClosed, is_open, expr_pieces, stmt_pieces, body_pieces}
use Rattle.em_tree.specs.ItemGrammar
use Rattle.em_tree.specs.ItemGrammar.{IsItem, IsFile, OutputWithin, item_pieces, file_pieces}
use Rattle.em_first.specs.Form.{said, name_in, Begins, NameFirst, IntFirst, LetFirst, PrintFirst, Statement, Let, Print, Body as IsStatements, FirstForm}
use Rattle.em_first.specs.Laws.{ProgramsAreFiles}
use Rattle.em_first.proofs.SpelledKinds.{IsSpelled, IsWord, all_spelled, word_kind, word_is, sign_is, name_is, int_is, format_is_free, name_is_free}

-- ---- the tokens at the front

-- the first of these tokens says this, and the others come behind it
record First (w : List ℕ) (ts rest : List Token) : Type 0 where
  t : Token
  front : ts ≡ t ∷ rest
  spelled : IsSpelled t
  says : said t.kind t.text ≡ w
  more : Each IsSpelled rest

record Split (w : List ℕ) (ws : List (List ℕ)) (ts rest : List Token) : Type 0 where
  behind : List Token
  first : First w ts behind
  begins : Begins ws behind rest

split : (w : List ℕ) (ws : List (List ℕ)) (ts rest : List Token) → Each IsSpelled ts → Begins (w ∷ ws) ts rest → Split w ws ts rest
split w ws ts rest spelled h =
    let both : Each IsSpelled (h.0 ∷ h.1) = subst (Each IsSpelled) h.2 spelled in
    record { behind = h.1; first = record { t = h.0; front = h.2; spelled = both.0; says = h.3; more = both.1 }; begins = h.4 }

only : (w : List ℕ) (ts rest : List Token) → Each IsSpelled ts → Begins (w ∷ []) ts rest → First w ts rest
only w ts rest spelled h = let s = split w [] ts rest spelled h in subst (First w ts) s.begins s.first

-- the first of these tokens has this property
record Front (P : Token → Type 0) (ts rest : List Token) : Type 0 where
  t : Token
  front : ts ≡ t ∷ rest
  is : P t
  more : Each IsSpelled rest

name_front : (name : List ℕ) (ts rest : List Token) → Each IsSpelled ts → NameFirst E2015 name ts rest → Front Name ts rest
name_front name ts rest spelled h =
    let both : Each IsSpelled (h.0 ∷ rest) = subst (Each IsSpelled) h.1 spelled in
    record { t = h.0; front = h.1; is = name_is h.0 name both.0 h.2; more = both.1 }

int_front : (value : ℕ) (ts rest : List Token) → Each IsSpelled ts → IntFirst value ts rest → Front IsLiteralToken ts rest
int_front value ts rest spelled h =
    let both : Each IsSpelled (h.0 ∷ rest) = subst (Each IsSpelled) h.1 spelled in
    record { t = h.0; front = h.1; is = int_is h.0 value h.2; more = both.1 }

-- ---- words and signs

is_word_let : IsWord (codes "let")
unfolding encode
is_word_let = record { bytes = refl; own = refl; no_open = refl; no_close = refl; no_punct = refl }

is_word_fn : IsWord (codes "fn")
unfolding encode
is_word_fn = record { bytes = refl; own = refl; no_open = refl; no_close = refl; no_punct = refl }

is_word_main : IsWord (codes "main")
unfolding encode
is_word_main = record { bytes = refl; own = refl; no_open = refl; no_close = refl; no_punct = refl }

is_word_println : IsWord (codes "println")
unfolding encode
is_word_println = record { bytes = refl; own = refl; no_open = refl; no_close = refl; no_punct = refl }

main_name : name_in E2015 (Ident (codes "main") false) ≡ Some (codes "main")
unfolding class_of
main_name = refl

println_name : name_in E2015 (Ident (codes "println") false) ≡ Some (codes "println")
unfolding class_of
println_name = refl

-- a word that is no keyword is a name
name_said : (w : List ℕ) (ts rest : List Token) → IsWord w → name_in E2015 (Ident w false) ≡ Some w → (f : First w ts rest) → Name f.t
name_said w ts rest word named f = name_is f.t w f.spelled (ap (name_in E2015) (word_kind f.t w f.spelled f.says word) ∙ named)

-- ---- `let name = value;`

one_opened : (t : Token) → opened_piece (p.Token t) ≡ t ∷ []
unfolding opened_piece
one_opened t =
    fold_out-Piece (List Token) (List Token) (List Token) open_piece open_group open_list (p.Token t)
    ∙ ap (λ k. open_piece (map-Piece Piece Group PieceList (List Token) (List Token) (List Token) (fold-Piece (List Token) (List Token) (List Token) open_piece open_group open_list) (fold-Group (List Token) (List Token) (List Token) open_piece open_group open_list) (fold-PieceList (List Token) (List Token) (List Token) open_piece open_group open_list) k)) (p.outs-Token t)

first_is : (t u : Token) → t ∷ [] ≡ u ∷ [] → t ≡ u
first_is t u h = cc

-- the sign `_` is no name
not_under : (t : Token) → Name t → Is (codes "_") t → ⊥
not_under t is under = no (is_written t) (and_parts (starts.is_name t) (not (is_written t)) is).1 (ap (is_one_of (strict ++ signs)) under)
  where
    no : (b : Bool) → not b ≡ true → b ≡ true → ⊥
    no b h k = let clash = sym (ap not k) ∙ h in cc

abbrev named : Token → Pat
named t = roll-Pat (Pat-F.Name None None t)

named_pieces : (t : Token) → pat_pieces (named t) ≡ p.Token t ∷ []
unfolding pat_parts
named_pieces t = fold-roll-Pat (List Piece) (pat_step piece whole as_it_is) (Pat-F.Name None None t)

named_is : (depth : ℕ) (t : Token) → Name t → IsPat (suc depth) (named t)
unfolding IsPat
named_is depth t is = PatGrammar.PatNode.name (out-roll-Pat (Pat-F.Name None None t)) tt tt is

no_mention : (t : Token) → Name t → IsNoMention (named t) annotation.Nothing
no_mention t is u one under =
    not_under t is (subst (Is (codes "_")) (sym (first_is t u (sym (one_opened t) ∙ sym (append-nil (opened_piece (p.Token t))) ∙ ap opened (sym (named_pieces t)) ∙ one))) under)

abbrev valued : Token → Expr
valued t = roll-Expr (Expr-F.Literal t)

valued_pieces : (t : Token) → expr_pieces (valued t) ≡ p.Token t ∷ []
unfolding expr_parts
valued_pieces t = fold-roll-Expr (List Piece) (List Piece) (List Piece) (List Piece) (expr_step piece whole as_it_is) (stmt_step piece whole as_it_is) (body_step piece whole as_it_is) (else_if_step piece whole as_it_is) (Expr-F.Literal t)

valued_is : (depth : ℕ) (t : Token) → IsLiteralToken t → IsExpr (suc depth) false (valued t)
unfolding IsExpr
valued_is zero t is = ExprGrammar.ExprNode.literal (out-roll-Expr (Expr-F.Literal t)) is
valued_is (suc depth) t is = ExprGrammar.ExprNode.literal (out-roll-Expr (Expr-F.Literal t)) is

-- a statement of a block
abbrev InBlock : ℕ → Stmt → Type 0
InBlock depth x = ExprGrammar.IsStmt (suc depth) (IsExpr (suc depth)) (IsExpr depth) true x

abbrev let_layer : (word name equals value semi : Token) → Stmt-F Expr Stmt Body ElseIf
let_layer word name equals value semi = Stmt-F.Let word (named name) annotation.Nothing equals (valued value) (Some semi)

let_pieces : (word name equals value semi : Token) → stmt_pieces (roll-Stmt (let_layer word name equals value semi)) ≡ p.Token word ∷ p.Token name ∷ p.Token equals ∷ p.Token value ∷ p.Token semi ∷ []
unfolding stmt_parts expr_parts
let_pieces word name equals value semi =
    fold-roll-Stmt (List Piece) (List Piece) (List Piece) (List Piece) (expr_step piece whole as_it_is) (stmt_step piece whole as_it_is) (body_step piece whole as_it_is) (else_if_step piece whole as_it_is) (let_layer word name equals value semi)
    ∙ ap (λ ys. p.Token word ∷ (ys ++ p.Token equals ∷ (expr_pieces (valued value) ++ p.Token semi ∷ []))) (named_pieces name)
    ∙ ap (λ ys. p.Token word ∷ p.Token name ∷ p.Token equals ∷ (ys ++ p.Token semi ∷ [])) (valued_pieces value)

let_is : (depth : ℕ) (word name equals value semi : Token) → Is (codes "let") word → Name name → Is (codes "=") equals → IsLiteralToken value → Is (codes ";") semi
    → InBlock depth (roll-Stmt (let_layer word name equals value semi))
let_is depth word name equals value semi is_word is_name is_equals is_value is_semi =
    ExprGrammar.IsStmt.let' (out-roll-Stmt (let_layer word name equals value semi)) is_word (named_is depth name is_name) tt (no_mention name is_name) is_equals (valued_is depth value is_value) (semi, refl, is_semi)

-- the front of these tokens is a statement
record StatementFront (depth : ℕ) (ts rest : List Token) : Type 0 where
  stmt : Stmt
  is : InBlock depth stmt
  closed : is_open (out-Stmt stmt) ≡ false
  yields : map p.Token ts ≡ stmt_pieces stmt ++ map p.Token rest
  more : Each IsSpelled rest

let_front : (depth : ℕ) (name : List ℕ) (value : ℕ) (ts rest : List Token) → Each IsSpelled ts → LetFirst E2015 name value ts rest → StatementFront depth ts rest
let_front depth name value ts rest spelled h =
    let a = only (codes "let") ts h.behind_let spelled h.is_let in
    let n = name_front name h.behind_let h.behind_name a.more h.is_name in
    let e = only (codes "=") h.behind_name h.behind_equals n.more h.is_equals in
    let v = int_front value h.behind_equals h.behind_int e.more h.is_int in
    let s = only (codes ";") h.behind_int rest v.more h.ends in
    let all : ts ≡ a.t ∷ n.t ∷ e.t ∷ v.t ∷ s.t ∷ rest =
    a.front ∙ ap (λ us. a.t ∷ us) (n.front ∙ ap (λ us. n.t ∷ us) (e.front ∙ ap (λ us. e.t ∷ us) (v.front ∙ ap (λ us. v.t ∷ us) s.front))) in
    record {
      stmt = roll-Stmt (let_layer a.t n.t e.t v.t s.t);
      is = let_is depth a.t n.t e.t v.t s.t (word_is a.t (codes "let") a.spelled a.says is_word_let refl) n.is (sign_is e.t 61 e.spelled e.says refl) v.is (sign_is s.t 59 s.spelled s.says refl);
      closed = ap is_open (out-roll-Stmt (let_layer a.t n.t e.t v.t s.t));
      yields = ap (map p.Token) all ∙ sym (ap (λ ys. ys ++ map p.Token rest) (let_pieces a.t n.t e.t v.t s.t));
      more = s.more;
    }

-- ---- `println!("{}", name);`

abbrev call : (word bang left string comma name right : Token) → MacroCall
call word bang left string comma name right =
    record { name = word; bang = bang; text = record { «open» = left; text = p.Token string ∷ p.Token comma ∷ p.Token name ∷ []; close = right } }

abbrev print_layer : (word bang left string comma name right semi : Token) → Stmt-F Expr Stmt Body ElseIf
print_layer word bang left string comma name right semi = Stmt-F.Stmt::Macro (call word bang left string comma name right) (Some semi)

print_pieces : (word bang left string comma name right semi : Token) → stmt_pieces (roll-Stmt (print_layer word bang left string comma name right semi))
    ≡ p.Token word ∷ p.Token bang ∷ p.Token left ∷ p.Token string ∷ p.Token comma ∷ p.Token name ∷ p.Token right ∷ p.Token semi ∷ []
unfolding stmt_parts
print_pieces word bang left string comma name right semi =
    fold-roll-Stmt (List Piece) (List Piece) (List Piece) (List Piece) (expr_step piece whole as_it_is) (stmt_step piece whole as_it_is) (body_step piece whole as_it_is) (else_if_step piece whole as_it_is) (print_layer word bang left string comma name right semi)

one_free : (t u : Token) → is_spelled delimiters t ≡ false → p.Token t ≡ p.Token u → is_spelled delimiters u ≡ false
one_free t u free e = subst (λ x. is_spelled delimiters x ≡ false) (first_is t u (sym (one_opened t) ∙ ap opened_piece e ∙ one_opened u)) free

balanced : (string comma name : Token) → is_spelled delimiters string ≡ false → is_spelled delimiters comma ≡ false → is_spelled delimiters name ≡ false
    → Balanced (p.Token string ∷ p.Token comma ∷ p.Token name ∷ [])
balanced string comma name f g h =
    tokens.Balanced.piece (p.Token string) (p.Token comma ∷ p.Token name ∷ []) refl (λ u e. one_free string u f e)
    (tokens.Balanced.piece (p.Token comma) (p.Token name ∷ []) refl (λ u e. one_free comma u g e)
    (tokens.Balanced.piece (p.Token name) [] refl (λ u e. one_free name u h e) (tokens.Balanced.nothing refl)))

-- `(` is no `{`
not_brace : (t : Token) → Is (codes "(") t → Is (codes "{") t → ⊥
not_brace t paren brace = no (ap (is_one_of (codes "(" ∷ [])) (sym paren ∙ brace))
  where
    no : true ≡ false → ⊥
    no h = cc

print_is : (depth : ℕ) (word bang left string comma name right semi : Token) → Name word → Is (codes "!") bang → Is (codes "(") left → is_spelled delimiters string ≡ false → Is (codes ",") comma
    → Name name → Is (codes ")") right → Is (codes ";") semi → InBlock depth (roll-Stmt (print_layer word bang left string comma name right semi))
print_is depth word bang left string comma name right semi is_word is_bang opens free is_comma is_name closes is_semi =
    ExprGrammar.IsStmt.macro (out-roll-Stmt (print_layer word bang left string comma name right semi)) (
      is_word,
      is_bang,
      record {
        ends = tokens.Match.parens opens closes;
        inside = balanced string comma name free (ap (is_one_of delimiters) is_comma) (name_is_free name is_name);
      },
    ) (inr (not_brace left opens, (semi, refl, is_semi)))

print_front : (depth : ℕ) (name : List ℕ) (ts rest : List Token) → Each IsSpelled ts → PrintFirst E2015 name ts rest → StatementFront depth ts rest
print_front depth name ts rest spelled h =
    let w = split (codes "println") (codes "!" ∷ codes "(" ∷ codes "\"{}\"" ∷ codes "," ∷ []) ts h.behind_comma spelled h.is_print in
    let b = split (codes "!") (codes "(" ∷ codes "\"{}\"" ∷ codes "," ∷ []) w.behind h.behind_comma w.first.more w.begins in
    let l = split (codes "(") (codes "\"{}\"" ∷ codes "," ∷ []) b.behind h.behind_comma b.first.more b.begins in
    let f = split (codes "\"{}\"") (codes "," ∷ []) l.behind h.behind_comma l.first.more l.begins in
    let c = only (codes ",") f.behind h.behind_comma f.first.more f.begins in
    let n = name_front name h.behind_comma h.behind_name c.more h.is_name in
    let r = split (codes ")") (codes ";" ∷ []) h.behind_name rest n.more h.ends in
    let s = only (codes ";") r.behind rest r.first.more r.begins in
    let all : ts ≡ w.first.t ∷ b.first.t ∷ l.first.t ∷ f.first.t ∷ c.t ∷ n.t ∷ r.first.t ∷ s.t ∷ rest =
    w.first.front ∙ ap (λ us. w.first.t ∷ us) (b.first.front ∙ ap (λ us. b.first.t ∷ us) (l.first.front ∙ ap (λ us. l.first.t ∷ us) (f.first.front ∙ ap (λ us. f.first.t ∷ us)
    (c.front ∙ ap (λ us. c.t ∷ us) (n.front ∙ ap (λ us. n.t ∷ us) (r.first.front ∙ ap (λ us. r.first.t ∷ us) s.front)))))) in
    record {
      stmt = roll-Stmt (print_layer w.first.t b.first.t l.first.t f.first.t c.t n.t r.first.t s.t);
      is = print_is depth w.first.t b.first.t l.first.t f.first.t c.t n.t r.first.t s.t
          (name_said (codes "println") ts w.behind is_word_println println_name w.first)
          (sign_is b.first.t 33 b.first.spelled b.first.says refl)
          (sign_is l.first.t 40 l.first.spelled l.first.says refl)
          (format_is_free f.first.t f.first.says)
          (sign_is c.t 44 c.spelled c.says refl)
          n.is
          (sign_is r.first.t 41 r.first.spelled r.first.says refl)
          (sign_is s.t 59 s.spelled s.says refl);
      closed = ap is_open (out-roll-Stmt (print_layer w.first.t b.first.t l.first.t f.first.t c.t n.t r.first.t s.t));
      yields = ap (map p.Token) all ∙ sym (ap (λ ys. ys ++ map p.Token rest) (print_pieces w.first.t b.first.t l.first.t f.first.t c.t n.t r.first.t s.t));
      more = s.more;
    }

-- ---- statements up to the `}`

record Statements (depth : ℕ) (ts : List Token) : Type 0 where
  stmts : List Stmt
  right : Token
  are : Each (InBlock depth) stmts
  closed : LastIsClosed stmts
  closes : Is (codes "}") right
  yields : map p.Token ts ≡ each stmt_pieces stmts ++ p.Token right ∷ []

closed_before : (x : Stmt) (xs : List Stmt) → is_open (out-Stmt x) ≡ false → LastIsClosed xs → LastIsClosed (x ∷ xs)
closed_before x [] h k = h
closed_before x (y ∷ ys) h k = k

one_more : (depth : ℕ) (ts rest : List Token) → StatementFront depth ts rest → Statements depth rest → Statements depth ts
one_more depth ts rest s b =
    record {
      stmts = s.stmt ∷ b.stmts;
      right = b.right;
      are = (s.is, b.are);
      closed = closed_before s.stmt b.stmts s.closed b.closed;
      closes = b.closes;
      yields = s.yields ∙ ap (λ ys. stmt_pieces s.stmt ++ ys) b.yields ∙ sym (append_assoc (stmt_pieces s.stmt) (each stmt_pieces b.stmts) (p.Token b.right ∷ []));
    }

statements : (depth : ℕ) (names : List (List ℕ)) (ts : List Token) (core : List Statement) → Each IsSpelled ts → IsStatements E2015 names ts core → Statements depth ts
statements depth names ts [] spelled h =
    let r = only (codes "}") ts [] spelled h in
    record { stmts = []; right = r.t; are = tt; closed = tt; closes = sign_is r.t 125 r.spelled r.says refl; yields = ap (map p.Token) r.front }
statements depth names ts (Let value ∷ core) spelled (name, rest, first, more) =
    let s = let_front depth name value ts rest spelled first in one_more depth ts rest s (statements depth (name ∷ names) rest core s.more more)
statements depth names ts (Print which ∷ core) spelled (name, rest, first, bound, more) =
    let s = print_front depth name ts rest spelled first in one_more depth ts rest s (statements depth names rest core s.more more)

-- ---- `fn main() { .. }`

abbrev body : List Stmt → Body
body stmts = roll-Body (record { stmts = stmts; tail = None })

abbrev block : (left right : Token) → List Stmt → Block Body
block left right stmts = record { groups = []; «open» = left; body = body stmts; close = right }

each_map : {A B C : Type 0} (f : B → List A) (k : C → B) (xs : List C) → each f (map k xs) ≡ each (λ x. f (k x)) xs
each_map f k [] = refl
each_map f k (x ∷ xs) = ap (λ r. f (k x) ++ r) (each_map f k xs)

body_yields : (stmts : List Stmt) → body_pieces (body stmts) ≡ each stmt_pieces stmts
unfolding body_parts stmt_parts
body_yields stmts =
    fold-roll-Body (List Piece) (List Piece) (List Piece) (List Piece) (expr_step piece whole as_it_is) (stmt_step piece whole as_it_is) (body_step piece whole as_it_is) (else_if_step piece whole as_it_is) (record { stmts = stmts; tail = None })
    ∙ append-nil _ ∙ each_map same (stmt_parts piece whole as_it_is) stmts

block_is : (depth : ℕ) (left right : Token) (stmts : List Stmt) → Is (codes "{") left → Is (codes "}") right → Each (InBlock depth) stmts → LastIsClosed stmts → BlockWithin (suc depth) (block left right stmts)
unfolding BlockWithin
block_is depth left right stmts opens closes are closed = record { opens = opens; body = record { stmts = are; end = closed }; closes = closes; groups = tt }

abbrev no_output : Output
no_output = roll-Output Output-F.Output::Unit

no_output_is : (depth : ℕ) → OutputWithin (suc depth) no_output
unfolding OutputWithin
no_output_is depth = PathGrammar.IsOutput.nothing (out-roll-Output Output-F.Output::Unit) refl

no_output_yields : output_parts piece whole as_it_is no_output ≡ []
unfolding output_parts
no_output_yields = fold-roll-Output (List Piece) (List Piece) (List Piece) (List Piece) (List Piece) (bound_step piece whole as_it_is) (output_step piece whole as_it_is) (path_step piece whole as_it_is) (type_tree_step piece whole as_it_is) (qualified_step piece whole as_it_is) Output-F.Output::Unit

abbrev sig : (word name open' close : Token) → Sig
sig word name open' close = record { word = word; name = name; «open» = open'; receiver = None; params = []; close = close; output = no_output }

abbrev function : (word name open' close left right : Token) → List Stmt → Item-F Item
function word name open' close left right stmts = Item-F.Plain [] None (item_body.Fn (sig word name open' close) (block left right stmts))

function_is : (depth : ℕ) (word name open' close left right : Token) (stmts : List Stmt) → Is (codes "fn") word → Name name → Is (codes "(") open' → Is (codes ")") close → Is (codes "{") left → Is (codes "}") right
    → Each (InBlock depth) stmts → LastIsClosed stmts → IsItem (suc (suc depth)) (roll-Item (function word name open' close left right stmts))
unfolding IsItem
function_is depth word name open' close left right stmts is_word is_name opens closes is_left is_right are closed =
    ItemGrammar.ItemNode.plain (out-roll-Item (function word name open' close left right stmts)) tt tt (
      record { word = is_word; name = is_name; opens = opens; begins = tt; params = tt; closes = closes; output = no_output_is depth },
      block_is depth left right stmts is_left is_right are closed,
    )

function_yields : (word name open' close left right : Token) (stmts : List Stmt) → item_pieces (roll-Item (function word name open' close left right stmts))
    ≡ p.Token word ∷ p.Token name ∷ p.Token open' ∷ p.Token close ∷ p.Token left ∷ (each stmt_pieces stmts ++ p.Token right ∷ [])
unfolding item_parts
function_yields word name open' close left right stmts =
    fold-roll-Item (List Piece) (item_step piece whole as_it_is) (function word name open' close left right stmts)
    ∙ ap (λ o. (p.Token word ∷ p.Token name ∷ p.Token open' ∷ p.Token close ∷ o) ++ block_parts piece whole as_it_is body_pieces (block left right stmts)) no_output_yields
    ∙ ap (λ b. p.Token word ∷ p.Token name ∷ p.Token open' ∷ p.Token close ∷ p.Token left ∷ (b ++ p.Token right ∷ [])) (body_yields stmts)

abbrev file : Item → FileTree
file x = record { attributes = []; items = x ∷ [] }

-- ---- programs

program : (depth : ℕ) (ts : List Token) → Each IsSpelled ts → FirstForm E2015 ts → (x : FileTree) × IsFile (suc (suc depth)) x × (map p.Token ts ≡ file_pieces x)
program depth ts spelled (core, (rest, begins, are)) =
    let w = split (codes "fn") (codes "main" ∷ codes "(" ∷ codes ")" ∷ codes "{" ∷ []) ts rest spelled begins in
    let n = split (codes "main") (codes "(" ∷ codes ")" ∷ codes "{" ∷ []) w.behind rest w.first.more w.begins in
    let o = split (codes "(") (codes ")" ∷ codes "{" ∷ []) n.behind rest n.first.more n.begins in
    let c = split (codes ")") (codes "{" ∷ []) o.behind rest o.first.more o.begins in
    let l = only (codes "{") c.behind rest c.first.more c.begins in
    let b = statements depth [] rest core l.more are in
    let all : ts ≡ w.first.t ∷ n.first.t ∷ o.first.t ∷ c.first.t ∷ l.t ∷ rest =
    w.first.front ∙ ap (λ us. w.first.t ∷ us) (n.first.front ∙ ap (λ us. n.first.t ∷ us) (o.first.front ∙ ap (λ us. o.first.t ∷ us) (c.first.front ∙ ap (λ us. c.first.t ∷ us) l.front))) in
    let item = roll-Item (function w.first.t n.first.t o.first.t c.first.t l.t b.right b.stmts) in (
      file item,
      (
        tt,
        (
          function_is depth w.first.t n.first.t o.first.t c.first.t l.t b.right b.stmts
              (word_is w.first.t (codes "fn") w.first.spelled w.first.says is_word_fn refl)
              (name_said (codes "main") w.behind n.behind is_word_main main_name n.first)
              (sign_is o.first.t 40 o.first.spelled o.first.says refl)
              (sign_is c.first.t 41 c.first.spelled c.first.says refl)
              (sign_is l.t 123 l.spelled l.says refl)
              b.closes b.are b.closed,
          tt,
        ),
      ),
      ap (map p.Token) all
          ∙ ap (λ ys. p.Token w.first.t ∷ p.Token n.first.t ∷ p.Token o.first.t ∷ p.Token c.first.t ∷ p.Token l.t ∷ ys) b.yields
          ∙ sym (function_yields w.first.t n.first.t o.first.t c.first.t l.t b.right b.stmts)
          ∙ sym (append-nil (item_pieces item)),
    )

pub programs_are_files : ProgramsAreFiles
programs_are_files text ts lexes h = program 198 ts (all_spelled text ts lexes) h
