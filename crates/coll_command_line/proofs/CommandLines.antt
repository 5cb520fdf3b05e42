-- What is on the command line, put together, and that it is simple.
use Rattle.std.proofs.Common.{◌≡◌, ◌&&◌, ℕ, ◌+◌, ◌<◌, ◌≤◌, Bool, true, false, not, List, length, drop, get_or, Option, Some, None, refl, sym, ap, ◌∙◌}
use Rattle.std.specs.Prelude.{option_map}
use Rattle.std.proofs.lemmas.List.{drop_all, drop_more}
use Rattle.clap.specs.Words.{App, HasMatchesOf, Row, Text, is_simple, subcommand_name_of, subcommand_of, with_subcommand}
use Rattle.clap.specs.declared.ArgMatches.{ArgMatches}
use Rattle.clap.proofs.OnLiterals.{clap_on_literals}
use Rattle.coll_command_line.specs.CommandLine.{command_line, subcommands, taken_by, with_each}
use Rattle.coll_command_line.specs.Reading.{Says, named_by}
use Rattle.coll_command_line.specs.declared.requests.Unasked.{Unasked}
use Rattle.coll_command_line.specs.declared.requests.Unasked.TheVariants as unasked
use Rattle.coll_command_line.specs.declared.subcommands.Subcommand.{Subcommand}

-- a plain command has no argument of all subcommands
pub plain_local : (a b c d : Bool) → (a && (b && (not c && d))) ≡ true → c ≡ false
plain_local true true false d plain = refl
plain_local true true true d plain = absurd cc
plain_local true false c d plain = absurd cc
plain_local false b c d plain = absurd cc

-- the next subcommand is added
pub each_step : (app : App) (list : List Subcommand) (n : ℕ) (d : Subcommand) → n < length list
    → with_each app (drop n list) ≡ with_each (with_subcommand app (taken_by (get_or list n d))) (drop (n + 1) list)
unfolding with_each
each_step app list n d less = ap (with_each app) (drop_more list n d less)

-- none is left
pub each_added : (app : App) (list : List Subcommand) (n : ℕ) → length list ≤ n → with_each app (drop n list) ≡ app
unfolding with_each
each_added app list n all = ap (with_each app) (drop_all n list all)

-- what may stand on a command line is simple
pub simple : is_simple command_line ≡ true
unfolding clap_on_literals command_line with_each subcommands
simple = refl

-- one reading of what another gives
mapped_twice : {A B C : Type 0} (f : A → B) (g : B → C) (o : Option A) → option_map g (option_map f o) ≡ option_map (λ (a : A). g (f a)) o
mapped_twice f g None = refl
mapped_twice f g (Some a) = refl

-- the name that a parse of words met is the one that they name
pub name_is : (words : List Text) (matches : ArgMatches) (app : App) → app ≡ command_line → HasMatchesOf app words matches
    → subcommand_name_of matches ≡ named_by words
name_is words matches app is has =
    sym (mapped_twice _ (λ (p : Text × List Row). p.0) _)
    ∙ ap (option_map (λ (p : Text × List Row). p.0)) ((has (ap is_simple is ∙ simple)).1 ∙ ap (λ (a : App). subcommand_of a words) is)

-- what may be said of words that pass may be said of any
pub says_any : (passes : Bool) (name : Option Text) (said : Unasked) → Says true name said → Says passes name said
says_any passes name (unasked.Told error) says = λ pass. says refl
says_any passes name unasked.Version says = says
says_any passes name unasked.OutOfMemory says = says
