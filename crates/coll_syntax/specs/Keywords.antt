-- The words that begin a line: of a table (POSIX.1-2017, 7.3.2), of a delta (ISO/IEC 14651), and the project's own.
use Rattle.std.specs.Prelude.{if◌then◌else◌, Option, Some, None, codes}
use Rattle.coll_lex.specs.declared.tokens.Token.{Token}
use Rattle.coll_syntax.specs.Identifier.{is_word}
use Rattle.coll_syntax.specs.declared.keywords.Keyword.{Keyword}
use Rattle.coll_syntax.specs.declared.keywords.Keyword.TheVariants.{CollatingSymbol, CollatingElement, SymbolEquivalence}
use Rattle.coll_syntax.specs.declared.keywords.Keyword.TheVariants.{OrderStart, OrderEnd, Section, Script, Category, End, Copy}
use Rattle.coll_syntax.specs.declared.keywords.Keyword.TheVariants.{ReorderAfter, ReorderEnd, ReorderSectionAfter}

-- the keyword that a token spells, if it spells one
unfoldable pub keyword_of : Token → Option Keyword
keyword_of t =
    if is_word t (codes "collating-symbol") then Some CollatingSymbol
    else (if is_word t (codes "collating-element") then Some CollatingElement
    else (if is_word t (codes "symbol-equivalence") then Some SymbolEquivalence
    else (if is_word t (codes "order_start") then Some OrderStart
    else (if is_word t (codes "order_end") then Some OrderEnd
    else (if is_word t (codes "section") then Some Section
    else (if is_word t (codes "script") then Some Script
    else (if is_word t (codes "LC_COLLATE") then Some Category
    else (if is_word t (codes "END") then Some End
    else (if is_word t (codes "copy") then Some Copy
    else (if is_word t (codes "reorder-after") then Some ReorderAfter
    else (if is_word t (codes "reorder-end") then Some ReorderEnd
    else (if is_word t (codes "reorder-section-after") then Some ReorderSectionAfter
    else None))))))))))))
