use Rattle.coll_source_lines.proofs.ranges.+push_digits.Given as goal

-- how many digits are left
abbrev pub decreases-push_digits : goal.decreases-push_digits
decreases-push_digits l = l.count
