-- What follows from the definitions of replies and of a session: that what is refused changes nothing, and that lack of memory shows.
use Rattle.std.specs.Prelude.{◌≡◌, ◌⊎◌, ℕ, Bool, true, false, List, [], ◌++◌}
use Rattle.coll_devices.specs.PhysicalLines.{lines_of, with_feeds}
use Rattle.coll_nodes.specs.Table.{Collation}
use Rattle.coll_history.specs.Histories.{History, begun}
use Rattle.coll_requests.specs.declared.requests.Request.{Request}
use Rattle.coll_bench.specs.Replies.{refused_line, starved_line, reply_if, history_after_if}
use Rattle.coll_faults.specs.declared.faults.Fault.{Fault}
use Rattle.coll_bench.specs.Runs.{starved_output, output, last_of}

-- a request whose reply is a refusal, lack of memory included, leaves the history
abbrev pub RefusedChangesNothing : Type 0
RefusedChangesNothing = (starved : Bool) (h : History) (request : Request) (f : Fault) → reply_if starved h request ≡ refused_line f
    → history_after_if starved h request ≡ h

-- the reply to lack of memory stands in these bytes
abbrev pub ShowsLack : List ℕ → Type 0
ShowsLack bytes = (before : List ℕ) × (after : List ℕ) × (bytes ≡ before ++ (starved_line ++ after))

-- lack of memory shows: what is written for a whole text is what is stated, or that reply stands in it
abbrev pub LackShows : Type 0
LackShows = (lines_starved requests_starved : List Bool) (table : Collation) (text : List ℕ)
    → (starved_output lines_starved requests_starved true (begun table) text ≡ output table text)
    ⊎ ShowsLack (starved_output lines_starved requests_starved true (begun table) text)

-- the last line of a text, if it has one that is too long or one too many, is the stated one, or that reply stands in the output
abbrev pub LackShowsLast : Type 0
LackShowsLast = (lines_starved requests_starved : List Bool) (table : Collation) (text : List ℕ)
    → (last_of lines_starved true text ≡ last_of [] true text) ⊎ ShowsLack (starved_output lines_starved requests_starved true (begun table) text)

-- what is written for lines that each end in a line feed, where the text is cut behind them, is what is stated for them; or,
-- whatever comes behind them in its place, that reply stands in what is written for the whole under the same choices
abbrev pub LackShowsCut : Type 0
LackShowsCut = (lines_starved requests_starved : List Bool) (table : Collation) (read : List ℕ) → read ≡ with_feeds (lines_of read)
    → (starved_output lines_starved requests_starved false (begun table) read ≡ starved_output [] [] false (begun table) read)
    ⊎ ((later : List ℕ) → ShowsLack (starved_output lines_starved requests_starved true (begun table) (read ++ later)))

-- a prefix of what is to be written for a whole text is one of what is stated, or that reply stands in the whole
abbrev pub LackShowsPrefix : Type 0
LackShowsPrefix = (lines_starved requests_starved : List Bool) (table : Collation) (text written back : List ℕ)
    → starved_output lines_starved requests_starved true (begun table) text ≡ written ++ back
    → ((later : List ℕ) × (output table text ≡ written ++ later)) ⊎ ShowsLack (written ++ back)
