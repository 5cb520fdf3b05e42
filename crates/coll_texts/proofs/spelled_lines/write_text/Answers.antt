-- Each character is one part.
use Rattle.std.proofs.Common.{◌∙◌, rules}
use Rattle.std.proofs.lemmas.Iterator.{YieldsList-from_chars}
use Rattle.coll_texts.specs.PrintedParts.{char_bytes}
use Rattle.coll_texts.proofs.PrintedParts.{yielded_prefix, yielded_more, yielded_all}
use Rattle.coll_texts.proofs.spelled_lines.write_text.Goals as goal

pub returns-in-Err : goal.returns-in-Err
returns-in-Err g c =
    let road = YieldsList-from_chars c.args.text.now c.utf8.text cc in
    record {
      sent = yielded_prefix char_bytes road c.loop-c.yielded c.loop-c.yielded_by _ c.next.ensures.steps _ _ c.loop-c.invariant.sent c.in-Some.c _ c.in-Some.is c.in-Err.ensures.sent;
      errors = search rules;
    }

pub loop-c-preserved : goal.loop-c-preserved
loop-c-preserved g c =
    let road = YieldsList-from_chars c.args.text.now c.utf8.text cc in
    record {
      sent = yielded_more char_bytes road c.loop-c.yielded c.loop-c.yielded_by _ c.next.ensures.steps _ _ c.loop-c.invariant.sent c.in-Some.c _ c.in-Some.is c.in_default.ensures.sent;
      count = c.in_default.ensures.errors ∙ c.loop-c.invariant.count;
    }

pub returns : goal.returns
returns g c =
    let road = YieldsList-from_chars c.args.text.now c.utf8.text cc in
    record {
      sent = yielded_all char_bytes road c.loop-c.yielded c.loop-c.yielded_by _ c.next.ensures.steps _ _ c.loop-c.invariant.sent c.in-None.is;
      errors = search rules;
    }
