use Rattle.std.proofs.Common.{◌≡◌, ◌++◌, take, drop, chars, refl}
use Rattle.coll_lex.specs.Scanning.{word_token}
use Rattle.coll_lex.proofs.RunLemmas.{word_taken, word_cut, word_put, word_made, whole_word, run_more, run_part}
use Rattle.coll_lex.proofs.scanning.Scan.take_word.Goals as goal

pub split_at-requires : goal.split_at-requires
split_at-requires c = word_cut c.args.special c.args.text.now c.args.size c.utf8.text c.requires.within c.requires.plain

pub returns-then-not-is_whole-clause-ok : goal.returns-then-not-is_whole-clause-ok
returns-then-not-is_whole-clause-ok c =
    rw (c.split_at.ensures.back)
    (word_taken c.args.special c.args.self.now _ c.args.text.now c.args.size c.requires.outside c.requires.unescaped c.requires.plain
    (rw (c.in_ok-push_str.ensures.ok, c.split_at.ensures.front) refl))

pub take_separator-requires-clause-no_word : goal.take_separator-requires-clause-no_word
take_separator-requires-clause-no_word c = (whole_word c.args.self.now.partial _ c.is_whole.result c.is_whole.ensures c.if-not-is_whole.false).0

pub returns-clause-ok : goal.returns-clause-ok
returns-clause-ok c =
    let s = c.args.self.now in
    let text = c.args.text.now in
    let whole = whole_word s.partial _ c.is_whole.result c.is_whole.ensures c.if-not-is_whole.false in
    let follows = rw c.split_at.ensures.back at whole.1 in
    let mid = record s { tokens = c.push.new.self } in
    let put : c.push.new.self ≡ s.tokens ++ word_token (chars (take c.args.size text)) =
    rw (word_made c.args.special text c.args.size c.requires.plain c.requires.some c.requires.within) (rw (c.in_ok-push.ensures.ok, c.in_ok-token.ensures, c.split_at.ensures.front) refl) in
    let separated = rw c.split_at.ensures.back at c.in_ok-rest.ensures.ok in
    run_part c.args.special s c.take_separator.new.self text c.in_ok-rest.rest.now
    (run_more c.args.special s mid c.take_separator.new.self text (drop c.args.size text) c.in_ok-rest.rest.now
    (word_put c.args.special s mid text c.args.size c.requires.outside c.requires.unescaped whole.0 c.requires.plain follows (rw put refl)) separated)
