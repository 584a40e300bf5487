pub mod CallLists
