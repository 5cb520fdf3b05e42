-- What is written for what a call of the history or of the keys answered.
use Rattle.std.proofs.Common.{◌≡◌, ◌≢◌, ◌||◌, ◌++◌, ◌∷◌, Bool, true, false, if◌then◌else◌, Option, Some, Result, Ok, Err, IsErr, codes, inl, inr}
use Rattle.std.proofs.Common.{⊎_elim, ℕ, zero, suc, ◌+◌, ◌≤◌, List, [], length, drop, refl, sym, ap, ◌∙◌, subst, append-nil, arith}
use Rattle.std.specs.Prelude.{◌⊎◌, IfOk, IfErr, IsTrue, OnErr, slice_get}
use Rattle.std.proofs.lemmas.List.{drop_all}
use Rattle.std.specs.Fmt.{digits}
use Rattle.std.specs.Io.KnownBytes.{Appends, Keeps}
use Rattle.std.proofs.KnownBytes.{Appends-kept}
use Rattle.std.specs.declared.cmp.Ordering.{Ordering}
use Rattle.coll_devices.specs.Devices.{AppendsPrefix, Sends}
use Rattle.coll_devices.proofs.WritingLemmas.{AppendsPrefix-after, AppendsPrefix-before, Sends-stopped}
use Rattle.coll_syntax.specs.declared.rules.Rule.{Rule}
use Rattle.coll_syntax.specs.declared.statements.Statement.{Statement}
use Rattle.coll_table.specs.declared.refusals.Refusal.{Refusal}
use Rattle.coll_table.specs.declared.refusals.Refusal.TheVariants as refusal
use Rattle.coll_key.specs.KeyLimits.{is_too_long}
use Rattle.coll_key.specs.SortKey.{key_of}
use Rattle.coll_key.specs.TextOrder.{order_of}
use Rattle.coll_key.specs.WrittenKey.{written_key}
use Rattle.coll_key.specs.declared.key_faults.KeyFault.{KeyFault}
use Rattle.coll_key.specs.declared.key_faults.KeyFault.TheVariants as key_fault
use Rattle.coll_faults.specs.Faults.{fault_of}
use Rattle.coll_history.specs.Histories.{History, SessionValue, table_now, judged, numbered, RefusesStatement}
use Rattle.coll_history.specs.Withdrawal.{is_numbered, withdrawn}
use Rattle.coll_bench.specs.Replies.{counted_line, refused_line, starved_line, still_needed_line, too_long_line, order_word, count_reply, outcome_line, history_or, command_reply}
use Rattle.coll_bench.specs.Replies.{history_after_command, reply, history_after, reply_if, history_after_if, key_line, order_line, history_line, history_lines}
use Rattle.coll_history.specs.declared.history_faults.BenchFault.{BenchFault}
use Rattle.coll_history.specs.declared.history_faults.BenchFault.TheVariants as bench
use Rattle.coll_faults.specs.declared.faults.Fault.TheVariants as fault
use Rattle.coll_requests.specs.declared.session_lines.Command.{Command}
use Rattle.coll_requests.specs.declared.session_lines.Command.TheVariants as command
use Rattle.coll_requests.specs.declared.request_faults.RequestFault.{RequestFault}
use Rattle.coll_requests.specs.declared.requests.Request.{Request}
use Rattle.coll_requests.specs.declared.requests.Request.TheVariants as kind

-- a call that leaves the session leaves its history
pub history_stays : {T : Type 0} (r : Result T BenchFault) (new old : SessionValue) → OnErr r (new ≡ old) → OnErr r (new.history ≡ old.history)
history_stays (Ok count) new old same = same
history_stays (Err fault) new old same = ap (λ (s : SessionValue). s.history) same

-- a call that stopped at the first of two parts sent a prefix of both
pub stopped_at_first : {T E : Type 0} (old new : Option (List ℕ)) (first later : List ℕ) (r : Result T E) → IsErr r → AppendsPrefix old new first → Sends old new (first ++ later) r
stopped_at_first old new first later r stopped prefix = Sends-stopped old new (first ++ later) r stopped (AppendsPrefix-before old new first later prefix)

-- what a call of the history answered is what the definition gives
pub record Outcome (word : List ℕ) (h h2 : History) (r : Result ℕ BenchFault) (given : Result History BenchFault) : Type 0 where
  pub line : outcome_line word r ≡ count_reply word given
  pub state : h2 ≡ history_or h given

pub outcome_is : (word : List ℕ) (h h2 : History) (r : Result ℕ BenchFault) (given : Result History BenchFault)
    → IfOk r (λ _. given ≡ Ok h2) → IfOk r (λ n. n ≡ length h2.remaining) → IfErr r (λ f. given ≡ Err f) → OnErr r (h2 ≡ h) → Outcome word h h2 r given
outcome_is word h h2 (Ok n) given ok count err same = record {
  line = ap (counted_line word) count ∙ ap (count_reply word) (sym ok);
  state = ap (history_or h) (sym ok);
}
outcome_is word h h2 (Err f) given ok count err same = record {
  line = ap (count_reply word) (sym err);
  state = same ∙ ap (history_or h) (sym err);
}

-- what was sent is the reply to a request, to which memory was refused or not
abbrev pub SendsReply : {T E : Type 0} → (old new : Option (List ℕ)) → History → Request → Result T E → Type 0
SendsReply old new h request r = (starved : Bool) × Sends old new (reply_if starved h request) r

-- the same, and the history is then the one after that request
abbrev pub Answers : {T E : Type 0} → (old new : Option (List ℕ)) → (h h2 : History) → Request → Result T E → Type 0
Answers old new h h2 request r = (starved : Bool) × Sends old new (reply_if starved h request) r × (h2 ≡ history_after_if starved h request)

-- what was sent is the reply to a command, and the history is then the one that the command leads to
abbrev pub Obeys : {T E : Type 0} → (old new : Option (List ℕ)) → (h h2 : History) → Command → Result T E → Type 0
Obeys old new h h2 c r = Answers old new h h2 (kind.Command c) r

-- a command that takes no memory
pub obeys : {T E : Type 0} (old new : Option (List ℕ)) (h h2 : History) (c : Command) (line : List ℕ) (r : Result T E) → Sends old new line r → line ≡ command_reply h c
    → h2 ≡ history_after_command h c → Obeys old new h h2 c r
unfolding reply history_after
obeys old new h h2 c line r sent is state = (false, subst (λ (bytes : List ℕ). Sends old new bytes r) is sent, state)

-- an undo or a redo
pub obeys_outcome : {T E : Type 0} (old new : Option (List ℕ)) (h h2 : History) (c : Command) (word : List ℕ) (given : Result History BenchFault) (outcome : Result ℕ BenchFault) (r : Result T E)
    → Outcome word h h2 outcome given → Sends old new (outcome_line word outcome) r → count_reply word given ≡ command_reply h c → history_or h given ≡ history_after_command h c
    → Obeys old new h h2 c r
obeys_outcome old new h h2 c word given outcome r o sent line state = obeys old new h h2 c (outcome_line word outcome) r sent (o.line ∙ line) (o.state ∙ state)

-- a key and an order leave the history, whether memory was refused or not
pub key_leaves : (starved : Bool) (h : History) (text : List ℕ) → history_after_if starved h (kind.Command (command.Key text)) ≡ h
unfolding history_after
key_leaves true h text = refl
key_leaves false h text = refl

pub order_leaves : (starved : Bool) (h : History) (text other_text : List ℕ) → history_after_if starved h (kind.Command (command.Compare text other_text)) ≡ h
unfolding history_after
order_leaves true h text other_text = refl
order_leaves false h text other_text = refl

-- a command that takes memory, and leaves the history
pub obeys_starving : {T E : Type 0} (old new : Option (List ℕ)) (h h2 : History) (c : Command) (r : Result T E)
    → SendsReply old new h (kind.Command c) r → h2 ≡ h → ((starved : Bool) → history_after_if starved h (kind.Command c) ≡ h) → Obeys old new h h2 c r
obeys_starving old new h h2 c r (starved, sent) state leaves = (starved, sent, state ∙ sym (leaves starved))

-- a statement that was judged
answers_judged : {T E : Type 0} (old new : Option (List ℕ)) (h h2 : History) (s : Statement) (outcome : Result ℕ BenchFault) (r : Result T E)
    → Outcome (codes "ok") h h2 outcome (judged h s) → Sends old new (outcome_line (codes "ok") outcome) r → Answers old new h h2 (kind.Statement s) r
unfolding reply history_after
answers_judged old new h h2 s outcome r o sent = (false, subst (λ (bytes : List ℕ). Sends old new bytes r) o.line sent, o.state)

-- lack of memory, or another refusal
lack_or_not : (f : BenchFault) → (f ≡ bench.Table refusal.OutOfMemory) ⊎ (f ≢ bench.Table refusal.OutOfMemory)
lack_or_not (bench.Table refusal.OutOfMemory) = inl refl
lack_or_not (bench.Table refusal.DeclaredTwice) = inr (λ e. cc)
lack_or_not (bench.Table refusal.NotDeclared) = inr (λ e. cc)
lack_or_not (bench.Table refusal.SymbolWithWeights) = inr (λ e. cc)
lack_or_not (bench.Table refusal.TooManyWeights) = inr (λ e. cc)
lack_or_not (bench.Table refusal.WeightNotPlaced) = inr (λ e. cc)
lack_or_not (bench.Table refusal.StringTwice) = inr (λ e. cc)
lack_or_not (bench.Table refusal.Full) = inr (λ e. cc)
lack_or_not (bench.Table refusal.TargetNotPlaced) = inr (λ e. cc)
lack_or_not (bench.Table refusal.TwiceInBlock) = inr (λ e. cc)
lack_or_not (bench.Table refusal.NoSuchSection) = inr (λ e. cc)
lack_or_not (bench.Table refusal.SectionAfterItself) = inr (λ e. cc)
lack_or_not (bench.Table refusal.NotPlaced) = inr (λ e. cc)
lack_or_not (bench.Table refusal.NoWeights) = inr (λ e. cc)
lack_or_not (bench.Table refusal.NotASymbol) = inr (λ e. cc)
lack_or_not bench.NothingToUndo = inr (λ e. cc)
lack_or_not bench.NothingToRedo = inr (λ e. cc)
lack_or_not bench.HistoryFull = inr (λ e. cc)
lack_or_not (bench.StillNeeded statement reason) = inr (λ e. cc)
lack_or_not bench.NoSuchStatement = inr (λ e. cc)

answers_starved : {T E : Type 0} (old new : Option (List ℕ)) (h h2 : History) (s : Statement) (f : BenchFault) (r : Result T E)
    → f ≡ bench.Table refusal.OutOfMemory → h2 ≡ h → Sends old new (outcome_line (codes "ok") (Err f)) r → Answers old new h h2 (kind.Statement s) r
unfolding refused_line
answers_starved old new h h2 s f r lack same sent = (true, subst (λ (g : BenchFault). Sends old new (refused_line (fault.Bench g)) r) lack sent, same)

-- the reply to a statement
pub answers_statement : {T E : Type 0} (old new : Option (List ℕ)) (h h2 : History) (s : Statement) (outcome : Result ℕ BenchFault) (r : Result T E)
    → IfOk outcome (λ _. judged h s ≡ Ok h2) → IfOk outcome (λ n. n ≡ length h2.remaining) → IfErr outcome (λ f. RefusesStatement h s f) → OnErr outcome (h2 ≡ h)
    → Sends old new (outcome_line (codes "ok") outcome) r → Answers old new h h2 (kind.Statement s) r
answers_statement old new h h2 s (Ok n) r ok count err same sent = answers_judged old new h h2 s (Ok n) r (outcome_is (codes "ok") h h2 (Ok n) (judged h s) ok count tt same) sent
answers_statement old new h h2 s (Err f) r ok count err same sent =
    ⊎_elim (λ (lack : f ≡ bench.Table refusal.OutOfMemory). answers_starved old new h h2 s f r lack same sent)
    (λ (other_fault : f ≢ bench.Table refusal.OutOfMemory). answers_judged old new h h2 s (Err f) r (outcome_is (codes "ok") h h2 (Err f) (judged h s) ok count (err other_fault) same) sent)
    (lack_or_not f)

-- a withdrawal of a statement that remains, for which memory was refused
withdraw_starved : {T E : Type 0} (old new : Option (List ℕ)) (h h2 : History) (k : ℕ) (f : BenchFault) (r : Result T E)
    → f ≡ bench.Table refusal.OutOfMemory → is_numbered h k ≡ true → h2 ≡ h → Sends old new (outcome_line (codes "withdrawn") (Err f)) r → Obeys old new h h2 (command.Withdraw k) r
unfolding refused_line
withdraw_starved old new h h2 k f r lack some same sent =
    let starved : Sends old new starved_line r = subst (λ (g : BenchFault). Sends old new (refused_line (fault.Bench g)) r) lack sent in (
      true,
      subst (λ (b : Bool). Sends old new (if b then starved_line else reply h (kind.Command (command.Withdraw k))) r) (sym some) starved,
      same ∙ ap (λ (b : Bool). if b then h else history_after h (kind.Command (command.Withdraw k))) (sym some),
    )

-- the reply that tells another statement is the one to this refusal
pub still_needed : (statement : ℕ) (reason : Refusal) → still_needed_line statement reason ≡ refused_line (fault.Bench (bench.StillNeeded statement reason))
unfolding refused_line digits
still_needed statement reason = refl

-- the reply to a withdrawal
pub obeys_withdraw : {T E : Type 0} (old new : Option (List ℕ)) (h h2 : History) (k : ℕ) (outcome : Result ℕ BenchFault) (r : Result T E)
    → IfOk outcome (λ _. withdrawn h k ≡ Ok h2) → IfOk outcome (λ n. n ≡ length h2.remaining) → IfErr outcome (λ f. f ≢ bench.Table refusal.OutOfMemory → withdrawn h k ≡ Err f)
    → IfErr outcome (λ f. f ≡ bench.Table refusal.OutOfMemory → IsTrue (is_numbered h k)) → OnErr outcome (h2 ≡ h) → Sends old new (outcome_line (codes "withdrawn") outcome) r
    → Obeys old new h h2 (command.Withdraw k) r
obeys_withdraw old new h h2 k (Ok n) r ok count err memory same sent =
    obeys_outcome old new h h2 (command.Withdraw k) (codes "withdrawn") (withdrawn h k) (Ok n) r (outcome_is (codes "withdrawn") h h2 (Ok n) (withdrawn h k) ok count tt same) sent refl refl
obeys_withdraw old new h h2 k (Err f) r ok count err memory same sent =
    ⊎_elim (λ (lack : f ≡ bench.Table refusal.OutOfMemory). withdraw_starved old new h h2 k f r lack (memory lack) same sent)
    (λ (other_fault : f ≢ bench.Table refusal.OutOfMemory). obeys_outcome old new h h2 (command.Withdraw k) (codes "withdrawn") (withdrawn h k) (Err f) r
    (outcome_is (codes "withdrawn") h h2 (Err f) (withdrawn h k) ok count (err other_fault) same) sent refl refl)
    (lack_or_not f)

-- the reply to what is refused
pub answers_refused : {T E : Type 0} (old new : Option (List ℕ)) (h : History) (f : RequestFault) (r : Result T E) → Sends old new (refused_line (fault_of f)) r
    → Answers old new h h (kind.Refused f) r
unfolding reply history_after
answers_refused old new h f r sent = (false, sent, refl)

-- a key is written, where the text isn't too long
pub sends_key : {T E : Type 0} (old new : Option (List ℕ)) (h : History) (text : List ℕ) (rules : List Rule) (key : List ℕ) (r : Result T E)
    → rules ≡ (table_now h).rules → key ≡ key_of (table_now h) text → is_too_long text ≡ false → Sends old new (written_key rules key ++ 10 ∷ []) r
    → SendsReply old new h (kind.Command (command.Key text)) r
unfolding reply key_line
sends_key old new h text rules key r rules_are key_is short sent =
    let given : Sends old new (written_key (table_now h).rules (key_of (table_now h) text) ++ 10 ∷ []) r =
    subst (λ (rs : List Rule). Sends old new (written_key rs (key_of (table_now h) text) ++ 10 ∷ []) r) rules_are
    (subst (λ (k : List ℕ). Sends old new (written_key rules k ++ 10 ∷ []) r) key_is sent) in (
      false,
      subst (λ (long : Bool). Sends old new (if long then too_long_line else written_key (table_now h).rules (key_of (table_now h) text) ++ 10 ∷ []) r) (sym short) given,
    )

-- a key is refused: the text is too long, or memory was refused
pub refuses_key : {T E : Type 0} (old new : Option (List ℕ)) (h : History) (text : List ℕ) (f : KeyFault) (r : Result T E)
    → (f ≢ key_fault.OutOfMemory → is_too_long text ≡ true) → Sends old new (refused_line (fault.Key f)) r → SendsReply old new h (kind.Command (command.Key text)) r
unfolding reply key_line refused_line
refuses_key old new h text key_fault.OutOfMemory r long sent = (true, sent)
refuses_key old new h text key_fault.TextTooLong r long sent =
    (false, subst (λ (b : Bool). Sends old new (if b then too_long_line else written_key (table_now h).rules (key_of (table_now h) text) ++ 10 ∷ []) r) (sym (long (λ e. cc))) sent)

-- an order is written, where neither text is too long
pub sends_order : {T E : Type 0} (old new : Option (List ℕ)) (h : History) (text other_text : List ℕ) (order : Ordering) (r : Result T E)
    → order ≡ order_of (table_now h) text other_text → (is_too_long text || is_too_long other_text) ≡ false → Sends old new (order_word order ++ 10 ∷ []) r
    → SendsReply old new h (kind.Command (command.Compare text other_text)) r
unfolding reply order_line
sends_order old new h text other_text order r order_is short sent =
    let given : Sends old new (order_word (order_of (table_now h) text other_text) ++ 10 ∷ []) r = subst (λ (o : Ordering). Sends old new (order_word o ++ 10 ∷ []) r) order_is sent in
    (false, subst (λ (long : Bool). Sends old new (if long then too_long_line else order_word (order_of (table_now h) text other_text) ++ 10 ∷ []) r) (sym short) given)

-- an order is refused: a text is too long, or memory was refused
pub refuses_order : {T E : Type 0} (old new : Option (List ℕ)) (h : History) (text other_text : List ℕ) (f : KeyFault) (r : Result T E)
    → (f ≢ key_fault.OutOfMemory → (is_too_long text || is_too_long other_text) ≡ true) → Sends old new (refused_line (fault.Key f)) r
    → SendsReply old new h (kind.Command (command.Compare text other_text)) r
unfolding reply order_line refused_line
refuses_order old new h text other_text key_fault.OutOfMemory r long sent = (true, sent)
refuses_order old new h text other_text key_fault.TextTooLong r long sent =
    (false, subst (λ (b : Bool). Sends old new (if b then too_long_line else order_word (order_of (table_now h) text other_text) ++ 10 ∷ []) r) (sym (long (λ e. cc))) sent)

-- a flush leaves what was sent, whether it failed or not
pub flushed : {T E : Type 0} (old mid new : Option (List ℕ)) (line : List ℕ) (r : Result T E) → Appends old mid line → Keeps mid new → Sends old new line r
flushed old mid new line (Ok x) sent kept = Appends-kept old mid new line sent kept
flushed old mid new line (Err e) sent kept = (line, [], sym (append-nil line), Appends-kept old mid new line sent kept)

-- the lines of the statements from one on are its line and those of the later ones
past_from : (n k : ℕ) (statements : List Statement) (s : Statement) → slice_get statements k ≡ Some s
    → history_lines n (drop k statements) ≡ history_line n s ++ history_lines (suc n) (drop (suc k) statements)
unfolding history_lines
past_from n k [] s is = absurd cc
past_from n zero (first ∷ statements) s is = let same : first ≡ s = cc in ap (λ (x : Statement). history_line n x ++ history_lines (suc n) statements) same
past_from n (suc k) (first ∷ statements) s is = past_from n k statements s is

past_on : (n : ℕ) (statements : List Statement) (s : Statement) → Some s ≡ numbered statements (n + 1) → history_lines (n + 1) (drop n statements)
    ≡ history_line (n + 1) s ++ history_lines (n + 1 + 1) (drop (n + 1) statements)
past_on n statements s is =
    let next : n + 1 ≡ suc n = omega arith in
    let after : n + 1 + 1 ≡ suc (n + 1) = omega arith in
    let at : slice_get statements n ≡ Some s = sym (is ∙ ap (numbered statements) next) in
    past_from (n + 1) n statements s at
    ∙ ap (λ (m : ℕ). history_line (n + 1) s ++ history_lines m (drop (suc n) statements)) (sym after)
    ∙ ap (λ (m : ℕ). history_line (n + 1) s ++ history_lines (n + 1 + 1) (drop m statements)) (sym next)

-- what was written so far, the line of the next statement, and the lines of the later ones
pub past_more : (n : ℕ) (statements : List Statement) (s : Statement) (done whole : List ℕ) → Some s ≡ numbered statements (n + 1) → whole ≡ done ++ history_lines (n + 1) (drop n statements)
    → whole ≡ done ++ (history_line (n + 1) s ++ history_lines (n + 1 + 1) (drop (n + 1) statements))
past_more n statements s done whole is so_far = so_far ∙ ap (λ (l : List ℕ). done ++ l) (past_on n statements s is)

-- a call that stopped at the line of the next statement sent a prefix of all lines
pub past_stopped : (old mid new : Option (List ℕ)) (n : ℕ) (statements : List Statement) (s : Statement) (done whole : List ℕ) → Some s ≡ numbered statements (n + 1)
    → whole ≡ done ++ history_lines (n + 1) (drop n statements)
    → Appends old mid done → AppendsPrefix mid new (history_line (n + 1) s) → AppendsPrefix old new whole
past_stopped old mid new n statements s done whole is so_far sent prefix =
    let later = history_lines (n + 1 + 1) (drop (n + 1) statements) in
    subst (AppendsPrefix old new) (sym (past_more n statements s done whole is so_far))
    (AppendsPrefix-after old mid new done (history_line (n + 1) s ++ later) sent (AppendsPrefix-before mid new (history_line (n + 1) s) later prefix))

-- no statement is left behind the last
pub past_end : (n : ℕ) (statements : List Statement) → length statements ≤ n → history_lines (n + 1) (drop n statements) ≡ []
unfolding history_lines
past_end n statements past = ap (history_lines (n + 1)) (drop_all n statements past)
