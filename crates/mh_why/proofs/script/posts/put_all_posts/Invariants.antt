use Rattle.std.proofs.Common.{◌≡◌, ◌++◌, drop}
use Rattle.std.specs.List.{flat_map}
use Rattle.mh_why.specs.Posts.{post_text}
use Rattle.mh_why.proofs.script.posts.put_all_posts.Given as goal

abbrev pub invariant-loop-post : goal.invariant-loop-post
invariant-loop-post l = l.text ++ flat_map (post_text l.file) (drop l.post-index l.posts) ≡ l.initial.text ++ flat_map (post_text l.file) l.posts
