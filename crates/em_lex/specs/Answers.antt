-- When a text is refused.
use Rattle.std.specs.Prelude.{◌≡◌, ◌<◌, ◌≤◌, ℕ, List, length}
use Rattle.em_base.specs.declared.edition.Edition.{Edition}
use Rattle.em_base.specs.declared.limit.Limit.TheVariants.{FileBytes}
use Rattle.em_lex.specs.Lexing.{FirstFault}
use Rattle.em_lex.specs.declared.error.LexError.{LexError}
use Rattle.em_lex.specs.declared.error.LexError.TheVariants.{NoMemory, At, Limit}

-- the bytes that a file may have: 4 MiB
abbrev pub most : ℕ
most = 4194304

-- want of memory is free; the limit is told where the text is longer, and else its first fault
abbrev pub Refused : Edition → List ℕ → LexError → Type 0
Refused edition bytes NoMemory = Unit {0}
Refused edition bytes (At offset kind) = (length bytes ≤ most) × FirstFault edition bytes kind offset
Refused edition bytes (Limit limit) = (limit ≡ FileBytes) × (most < length bytes)
